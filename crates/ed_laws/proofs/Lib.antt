pub mod Values
pub mod VoidTexts
pub mod Places
pub mod NodeLemmas
pub mod Nodes
pub mod Outcomes
pub mod Opened
pub mod Bytes
pub mod Theorems
pub mod Replies
pub mod LocalSteps
pub mod NodePlaces
mod Examples
