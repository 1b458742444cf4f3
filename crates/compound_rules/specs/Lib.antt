pub mod Elements
pub mod Fields
