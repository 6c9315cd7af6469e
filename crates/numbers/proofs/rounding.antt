pub mod Digits
pub mod Examples
pub mod RealCases
pub mod Rising
