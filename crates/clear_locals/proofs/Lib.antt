pub mod Names
pub mod Walks
