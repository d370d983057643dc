pub mod CrashPoints
pub mod Faultless
pub mod Names
pub mod Calls
pub mod Sources
pub mod StopLemmas
pub mod Examples
pub mod Theorems
