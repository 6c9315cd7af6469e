pub mod Bytes
pub mod Once
pub mod Pieces
pub mod Short
pub mod Steps
pub mod Told
