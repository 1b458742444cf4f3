pub mod SlotLaws
pub mod BufferLaws
pub mod LineLaws
pub mod DigitLaws
pub mod InputLaws
