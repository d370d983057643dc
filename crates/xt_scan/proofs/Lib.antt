pub mod Looks
pub mod Steps
pub mod Laws
pub mod Leaves
pub mod Theorems
pub mod Calls
mod Examples
