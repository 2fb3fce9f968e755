pub mod UsesTree
pub mod TypeNames
pub mod Beginnings
pub mod Followers
pub mod Inner
pub mod Primary
pub mod Suffixes
pub mod Prefixes
pub mod Operands
pub mod Expressions
pub mod Halting
pub mod Behind
pub mod Public
pub mod Starts
mod Completing
