-- the operation at an index
pub mod Standing
-- the law of blocks, made once
pub mod Example
-- the space that a hart knows
pub mod Spaces
-- members of a group in lockstep
pub mod Together
-- the law, made once
pub mod GroupExample
-- a call with an opening
mod CallExample
-- what a split makes of five processors
mod PartsExample
