pub mod Answering
pub mod Printing
pub mod Put
pub mod Reading
pub mod Steps
