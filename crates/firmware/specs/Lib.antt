pub mod Published
pub mod Replied
pub mod Told
