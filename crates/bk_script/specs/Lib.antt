pub mod Word
pub mod Command
pub mod Script
pub mod Reading
pub mod View
