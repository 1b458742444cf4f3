pub mod Slots
pub mod Digits
pub mod Input
pub mod Buffer
pub mod Lines
