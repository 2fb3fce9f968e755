pub mod Retold
pub mod Judging
pub mod Calling
pub mod Marking
pub mod Finding
pub mod Clearing
pub mod Settled
