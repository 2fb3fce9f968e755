pub mod LeastLemmas
pub mod ToldLemmas
