pub mod Digit
pub mod Laws
