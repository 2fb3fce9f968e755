pub mod Measured
pub mod Shown
