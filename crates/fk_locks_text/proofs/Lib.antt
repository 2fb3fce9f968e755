pub mod Correct
pub mod Marks
pub mod Known
pub mod Slots
pub mod Codes
pub mod Locks
