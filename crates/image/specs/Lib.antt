pub mod Loaded
pub mod Places
pub mod Placing
pub mod Reading
pub mod Told
pub mod Written
