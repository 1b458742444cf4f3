pub mod ShapeLaws
pub mod Cases
