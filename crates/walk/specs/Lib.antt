pub mod Effect
pub mod Words
pub mod Represents
pub mod Post
pub mod Moments
pub mod Loans
pub mod Typed
pub mod Cells
