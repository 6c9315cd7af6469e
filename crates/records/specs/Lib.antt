pub mod Layout
pub mod LookUp
pub mod Rows
pub mod Walk
