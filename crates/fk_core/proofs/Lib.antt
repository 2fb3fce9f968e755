pub mod Leading
pub mod Running
pub mod KeepsRuns
pub mod Examples
mod LoopExample
mod CodeExample
