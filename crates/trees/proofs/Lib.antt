pub mod Example
pub mod Decode
pub mod TypeTrees
pub mod ExpressionTrees
pub mod Statements
pub mod ItemTrees
pub mod Compounds
