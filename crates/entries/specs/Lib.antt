pub mod Judge
pub mod Valid
