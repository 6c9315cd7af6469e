pub mod Each
pub mod Flags
pub mod HeldLaws
pub mod Past
pub mod Slots
pub mod WordLaws
