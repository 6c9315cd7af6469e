pub mod Curves
pub mod TableLaws
