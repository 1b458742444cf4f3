pub mod Naming
pub mod Marking
pub mod Marks
pub mod Before
