pub mod Tree
pub mod Record
pub mod Example
