pub mod Safe
pub mod Present
pub mod Actors
pub mod Modes
pub mod Joints
