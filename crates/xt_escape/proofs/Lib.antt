pub mod Parts
pub mod Escaped
pub mod Inner
pub mod Theorems
mod Examples
