pub mod Examples
pub mod Counts
pub mod Kept
pub mod Histories
