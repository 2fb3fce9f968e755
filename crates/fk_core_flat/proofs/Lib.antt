pub mod Jumps
pub mod FlatCode
mod Examples
pub mod ListExamples
pub mod Ways
pub mod Having
pub mod Lengths
pub mod Parts
pub mod CodeAt
pub mod Counts
mod Ok
mod Forms
pub mod Programs
mod ShapeExamples
pub mod FlatPrograms
