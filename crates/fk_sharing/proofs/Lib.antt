pub mod Retold
pub mod Judging
pub mod Clearing
pub mod Marking
pub mod Finding
pub mod Settled
pub mod Lockstep
