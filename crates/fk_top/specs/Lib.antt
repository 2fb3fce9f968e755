pub mod Words
pub mod Report
pub mod Refused
pub mod Outcome
pub mod Ending
pub mod Status
pub mod Call
