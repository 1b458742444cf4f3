pub mod Descriptions
pub mod Operands
