pub mod Position
pub mod Fault
pub mod Line
