pub mod PathLemmas
mod Examples
pub mod Theorems
