pub mod Alike
pub mod Stepping
mod Laid
mod Functions
mod Synchronous
mod Made
