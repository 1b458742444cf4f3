pub mod Heads
pub mod Parameters
pub mod Chunks
pub mod Globals
pub mod Aliases
pub mod Items
pub mod Lists
