pub mod DigitLaws
pub mod DigitSlots
