pub mod Registers
pub mod Lines
pub mod Events
pub mod Operands
pub mod Levels
pub mod Parts
pub mod InPlace
pub mod Keeps
