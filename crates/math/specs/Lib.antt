pub mod Division
pub mod Fold
pub mod Math
pub mod Maths
