pub mod BelowZero
pub mod ChainTrips
pub mod ImageTrips
pub mod LoadLaws
pub mod Once
pub mod RecordTrips
