pub mod FileName
pub mod Uri
pub mod Base
pub mod Relative
pub mod Files
pub mod Laws
