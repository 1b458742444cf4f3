pub mod BuiltInNames
pub mod Begin
pub mod Refusals
pub mod Whole
pub mod Ending
pub mod Outcomes
pub mod Promise
