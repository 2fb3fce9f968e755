pub mod Counted
pub mod Written
pub mod Sizing
mod Framed
