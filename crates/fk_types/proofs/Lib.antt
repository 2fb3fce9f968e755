pub mod NoteLemmas
pub mod FactLemmas
pub mod CheckLemmas
pub mod OneKind
pub mod OneNumbering
pub mod OneFacts
