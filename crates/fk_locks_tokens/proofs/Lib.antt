pub mod Steps
pub mod Scanned
