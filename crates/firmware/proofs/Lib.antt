pub mod Once
pub mod Published
pub mod Replies
pub mod Whys
