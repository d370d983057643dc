pub mod Origins
pub mod Nodes
pub mod Plains
pub mod Address
pub mod Within
pub mod Paths
pub mod Vias
