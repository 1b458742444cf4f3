pub mod Display
pub mod Names
pub mod Length
pub mod Parts
pub mod Write
pub mod Sources
