pub mod Operator
pub mod Table
pub mod Operands
