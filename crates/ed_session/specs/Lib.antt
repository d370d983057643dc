pub mod Items
pub mod Ranges
pub mod Kept
pub mod Start
pub mod Edits
pub mod Burst
