pub mod Elements
pub mod Fields
pub mod Repeats
pub mod Tables
