pub mod Passed
pub mod Followed
pub mod Replay
