pub mod Uses
pub mod Alike
pub mod Declarations
pub mod Parameters
pub mod Steps
pub mod Commas
pub mod Optional
