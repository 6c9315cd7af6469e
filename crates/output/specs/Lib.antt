pub mod Commanded
pub mod Lasting
pub mod Output
pub mod Outputs
pub mod Rules
pub mod Turning
