pub mod Listing
pub mod Frames
pub mod Refusal
pub mod Layout
