pub mod Laws
pub mod Found
pub mod Exits
pub mod Meaning
pub mod Effects
