pub mod LengthLaws
pub mod ToldLaws
