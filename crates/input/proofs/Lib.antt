pub mod ErrorLaws
pub mod InputLaws
