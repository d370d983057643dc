pub mod TextEdit
pub mod Place
pub mod Book
pub mod Edit
pub mod Session
