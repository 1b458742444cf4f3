pub mod Decide
pub mod Search
pub mod Stores
