pub mod Words
pub mod Output
pub mod Ends
pub mod Leaves
pub mod Silent
pub mod RealFiles
