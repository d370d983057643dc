pub mod Replies
pub mod Stops
pub mod Doing
pub mod Telling
pub mod Runs
pub mod Input
pub mod Counts
