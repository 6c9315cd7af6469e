pub mod Coils
pub mod Rests
