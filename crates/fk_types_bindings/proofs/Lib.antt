pub mod SizeLemmas
pub mod KnownLemmas
pub mod SetLemmas
pub mod Below
pub mod BodyLemmas
pub mod BoundLemmas
