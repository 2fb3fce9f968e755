pub mod Ranges
pub mod Taken
pub mod Asked
