pub mod Changes
pub mod Settled
