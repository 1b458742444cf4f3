pub mod Absolute
pub mod Spaced
pub mod Stores
