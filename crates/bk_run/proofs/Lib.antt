pub mod DoingLemmas
pub mod TellingLemmas
pub mod CountLemmas
pub mod RunLemmas
pub mod StopLemmas
mod Examples
pub mod Theorems
