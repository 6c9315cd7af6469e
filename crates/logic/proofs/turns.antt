pub mod Arguments
pub mod Folds
