pub mod Names
pub mod Literals
