pub mod Kinds
pub mod Items
pub mod Parses
pub mod Refusals
pub mod Reading
pub mod Parts
