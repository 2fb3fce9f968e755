pub mod Scope
pub mod Parts
