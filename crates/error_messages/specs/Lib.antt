pub mod Description
pub mod Messages
pub mod Inner
