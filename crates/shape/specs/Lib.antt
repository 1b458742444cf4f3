pub mod Kinds
pub mod Shape
