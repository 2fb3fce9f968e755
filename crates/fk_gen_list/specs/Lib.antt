pub mod Layout
pub mod Kinds
pub mod Events
pub mod Generable
pub mod Cycles
pub mod Laws
pub mod Opening
pub mod Whole
