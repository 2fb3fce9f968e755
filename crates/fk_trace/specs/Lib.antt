pub mod Text
pub mod Ranges
pub mod Early
pub mod Schedule
