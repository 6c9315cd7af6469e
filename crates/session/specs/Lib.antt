pub mod Byte
pub mod Carried
pub mod Dialogue
pub mod Pieces
pub mod Program
