pub mod Changes
pub mod Copying
pub mod Listing
pub mod Noting
