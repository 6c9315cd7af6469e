pub mod NameLaws
pub mod Sought
