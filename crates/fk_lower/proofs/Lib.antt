mod Starts
mod Back
mod Measuring
mod Writing
pub mod Whole
mod Placing
mod Built
mod Shown
mod Closing
pub mod Room
mod Numbered
mod Told
