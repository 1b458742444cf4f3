pub mod Readable
pub mod Told
pub mod Examples
