pub mod Curves
pub mod Sentence
pub mod Table
pub mod Tables
