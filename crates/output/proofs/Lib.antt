pub mod Counts
pub mod Example
pub mod Found
pub mod Lasting
pub mod MotionLaws
pub mod OutputLaws
pub mod Rule7
pub mod RuleLaws
