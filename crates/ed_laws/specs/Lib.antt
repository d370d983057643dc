pub mod Outcome
pub mod Bytes
pub mod LocalSteps
pub mod NodePlaces
