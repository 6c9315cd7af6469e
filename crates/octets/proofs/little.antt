pub mod ByteLaws
pub mod Parts
