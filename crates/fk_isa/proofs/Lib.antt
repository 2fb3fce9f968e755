pub mod Found
pub mod Held
pub mod OneWord
pub mod InRange
pub mod Trapped
pub mod Computation
mod Assembled
