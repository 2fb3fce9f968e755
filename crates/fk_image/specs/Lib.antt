pub mod Events
pub mod Limits
pub mod Refusals
pub mod Spelling
pub mod Tables
