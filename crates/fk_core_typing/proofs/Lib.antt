mod DepthValues
mod DepthSteps
pub mod DepthRuns
pub mod Asked
mod AddressValues
mod AddressSteps
pub mod Enough
pub mod Granting
pub mod Examples
pub mod Done
pub mod System
pub mod Marks
pub mod Rising
pub mod Standing
pub mod Sound
pub mod Listed
pub mod Valued
pub mod LeadingWithin
pub mod Knowing
pub mod Depths
mod ListExample
