pub mod EntryLaws
pub mod FindLaws
