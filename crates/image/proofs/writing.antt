pub mod PlacingLaws
pub mod WrittenLaws
