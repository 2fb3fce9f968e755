pub mod ListLemmas
pub mod TypeLemmas
pub mod KnownLemmas
pub mod MeaningLemmas
