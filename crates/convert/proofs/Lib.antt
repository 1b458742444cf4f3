pub mod Visits
pub mod Heads
pub mod Leaves
pub mod Laws
pub mod Chunks
