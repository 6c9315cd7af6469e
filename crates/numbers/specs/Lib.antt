pub mod Bound
pub mod Choice
pub mod Limit
pub mod Line
pub mod Nearest
pub mod Order
pub mod Signed
