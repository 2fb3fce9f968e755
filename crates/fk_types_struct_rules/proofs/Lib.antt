pub mod DeclarationLemmas
pub mod StructLemmas
pub mod HoldingLemmas
