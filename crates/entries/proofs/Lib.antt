pub mod Allowed
pub mod Configuration
pub mod KeyLaws
pub mod Neighbours
pub mod RangeLaws
pub mod Start
