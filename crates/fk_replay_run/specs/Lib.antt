pub mod Runs
pub mod Steady
pub mod Arrivals
pub mod Openings
pub mod Told
