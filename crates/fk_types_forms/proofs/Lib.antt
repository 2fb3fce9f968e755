pub mod PartLemmas
pub mod NameLemmas
