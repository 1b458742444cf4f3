pub mod Index
pub mod Additions
