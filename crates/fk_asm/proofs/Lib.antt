pub mod Jumps
pub mod Entries
pub mod Near
pub mod Straight
pub mod Hexadecimal
pub mod Names
