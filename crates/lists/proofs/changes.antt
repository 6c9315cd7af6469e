pub mod ComparingLaws
pub mod FindingLaws
pub mod NotingLaws
pub mod OrderLaws
pub mod StandingLaws
pub mod StretchLaws
