pub mod Counts
pub mod Steady
