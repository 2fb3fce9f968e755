pub mod Code
pub mod Calls
