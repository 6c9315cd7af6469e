pub mod Signal
pub mod Words
