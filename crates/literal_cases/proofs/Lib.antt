pub mod NumberLaws
pub mod PlaceLaws
pub mod LineLaws
pub mod CaseLaws
