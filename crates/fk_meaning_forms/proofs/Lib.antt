pub mod Lookups
pub mod Ranks
pub mod Short
pub mod Functions
mod Asynchronous
pub mod Synchronous
