pub mod Named
pub mod Headers
pub mod Known
pub mod Found
pub mod Broken
