pub mod LaidLaws
pub mod RightLaws
pub mod SizeLaws
pub mod TakeLaws
pub mod WalkLaws
