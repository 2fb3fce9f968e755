pub mod Languages
pub mod Reads
pub mod Faults
pub mod Kinds
pub mod Readers
pub mod Gives
pub mod Ahead
