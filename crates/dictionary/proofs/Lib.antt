pub mod Apart
pub mod Once
pub mod OneEach
pub mod Sieve
pub mod Tabulate
pub mod Unticked
