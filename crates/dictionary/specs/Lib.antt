pub mod Names
pub mod Objects
pub mod OneEach
pub mod Rows
pub mod Unit
