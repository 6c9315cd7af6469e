pub mod Coils
pub mod Interlock
