pub mod AssignLaws
pub mod CastLaws
pub mod StripLaws
pub mod WordLaws
pub mod Decay
pub mod BackendLaws
pub mod Footprint
