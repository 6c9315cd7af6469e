pub mod Chains
pub mod Roles
pub mod Values
