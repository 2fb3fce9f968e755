pub mod Kinds
pub mod Grammar
pub mod Reading
pub mod Ahead
pub mod Gives
pub mod Laws
