pub mod SearchLemmas
pub mod RankLemmas
