pub mod Digits
pub mod Gathering
pub mod Logic
pub mod Logics
