pub mod Leaving
pub mod Lengths
