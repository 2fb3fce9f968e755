pub mod Ending
pub mod Following
pub mod Leaving
pub mod Passing
pub mod Replays
pub mod Timely
pub mod Traces
