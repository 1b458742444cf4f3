pub mod PairLaws
pub mod SearchLaws
pub mod Dearest
