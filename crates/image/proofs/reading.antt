pub mod Acceptance
pub mod OrderLaws
pub mod PlaceLaws
