pub mod Term
pub mod Names
pub mod Typing
pub mod Broken
pub mod Laws
