pub mod OneProgram
pub mod OneTrace
pub mod Committed
pub mod Traced
