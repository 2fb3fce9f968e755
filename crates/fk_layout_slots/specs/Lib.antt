pub mod Told
pub mod Words
pub mod Frames
pub mod Places
pub mod Slots
pub mod KnownView
pub mod Parts
