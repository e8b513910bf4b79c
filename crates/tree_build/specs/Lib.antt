pub mod Shape
pub mod Nodes
pub mod Building
