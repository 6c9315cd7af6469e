pub mod Each
pub mod Entry
pub mod Extent
pub mod Held
pub mod Sources
