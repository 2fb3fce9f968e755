pub mod ListLemmas
pub mod NamedLemmas
pub mod HeaderLemmas
pub mod Whole
