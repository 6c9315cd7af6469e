pub mod Errors
pub mod Input
pub mod Inputs
