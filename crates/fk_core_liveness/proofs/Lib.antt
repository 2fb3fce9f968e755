pub mod Bits
pub mod Asked
