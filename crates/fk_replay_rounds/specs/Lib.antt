pub mod Own
pub mod Modes
pub mod Fits
pub mod Stops
pub mod Joint
