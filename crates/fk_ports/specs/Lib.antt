pub mod Faults
pub mod Files
pub mod Host
pub mod InMemory
pub mod Known
