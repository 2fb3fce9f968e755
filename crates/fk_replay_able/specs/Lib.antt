pub mod Able
pub mod Known
