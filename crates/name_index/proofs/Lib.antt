pub mod IndexLaws
pub mod HashLaws
