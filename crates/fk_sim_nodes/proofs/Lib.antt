-- cycles and runs of a node alone
pub mod Runs
-- the chains of all nodes are the cycle
pub mod Chains
-- members up to their commit
pub mod Members
-- an instruction in its place
pub mod InPlace
-- members at one place
pub mod OnePlace
-- members that each do an operation by themselves
pub mod OneHart
-- evaluated examples
pub mod Examples
-- what a cycle makes of an arrival word
pub mod Phases
-- between two cycles
pub mod Between
-- all leave in one cycle
pub mod Leaving
-- and so they do in a run
pub mod MeetingRuns
-- a meeting, cycle by cycle
pub mod Example
