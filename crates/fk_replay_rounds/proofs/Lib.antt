pub mod Own
pub mod Fitting
pub mod Joints
