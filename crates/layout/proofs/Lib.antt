pub mod LayoutLaws
pub mod NameRoom
