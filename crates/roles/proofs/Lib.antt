pub mod Cases
pub mod Once
pub mod RoleLaws
pub mod StartLaws
