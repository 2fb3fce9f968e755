pub mod MoreLemmas
pub mod PieceLemmas
