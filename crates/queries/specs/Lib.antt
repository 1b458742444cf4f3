pub mod CastSearch
pub mod Entry
pub mod Dearest
