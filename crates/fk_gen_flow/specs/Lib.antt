pub mod Flow
pub mod Calls
pub mod Opening
pub mod Blocks
pub mod Keeps
pub mod Laws
