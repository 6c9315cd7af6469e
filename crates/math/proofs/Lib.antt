pub mod Divisions
pub mod MathExample
pub mod MathLaws
