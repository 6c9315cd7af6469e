pub mod Examples
pub mod LineCalls
pub mod LineLaws
pub mod Rounding
pub mod Weighing
