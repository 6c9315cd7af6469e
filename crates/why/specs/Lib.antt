pub mod Answer
pub mod Explains
pub mod Seen
pub mod Trail
