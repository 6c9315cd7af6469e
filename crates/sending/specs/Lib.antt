pub mod ByWay
pub mod Sending
