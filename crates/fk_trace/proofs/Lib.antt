pub mod Numbers
pub mod Longest
pub mod Lines
pub mod Cycles
pub mod Whole
pub mod Schedules
