pub mod Accepted
pub mod Commits
pub mod Faults
pub mod Images
pub mod Parts
pub mod Same
pub mod Tables
pub mod Words
