pub mod Jump
pub mod Assembly
pub mod Commits
pub mod Sound
pub mod Block
pub mod Listing
pub mod View
