pub mod Natural
pub mod Span
pub mod Stopped
pub mod Served
pub mod Turns
pub mod GroupSteps
pub mod Told
mod Examples
pub mod Seen
mod Programs
pub mod Sited
pub mod Bodies
mod Groups
pub mod Spine
pub mod Nested
pub mod Steps
pub mod Kept
pub mod Forms
pub mod NestedPrograms
