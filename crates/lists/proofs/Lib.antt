pub mod CopyingLaws
pub mod ListLaws
pub mod Once
