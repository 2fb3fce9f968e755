pub mod Weaken
pub mod Kept
pub mod Forms
pub mod Statements
pub mod Steps
pub mod Moves
pub mod Rounds
pub mod AnyForm
pub mod Untouched
pub mod Keep
pub mod Parts
pub mod Nodes
pub mod Trees
pub mod Acting
pub mod Round
pub mod Changes
pub mod Sizes
pub mod KeptSizes
pub mod Settled
pub mod ProgramRuns
mod ProgramExample
pub mod Tiers
pub mod Stands
pub mod SpaceSteps
pub mod Quiet
pub mod Changed
pub mod SpaceRuns
mod SpaceExample
