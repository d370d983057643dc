pub mod ByteOrderMark
pub mod Pieces
pub mod TextPlace
pub mod EditedContent
