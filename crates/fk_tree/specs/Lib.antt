pub mod Tree
pub mod Sound
pub mod Seen
pub mod View
