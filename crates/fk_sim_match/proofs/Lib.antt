-- members each at a stage by themselves
pub mod Stages
-- one cycle of all nodes
pub mod Cycles
-- the words of no node
pub mod Words
-- what a cycle leaves, by hart
pub mod Left
-- the pace
pub mod Pace
-- after the tree has changed
pub mod Changes
-- the assumptions, met once
pub mod Example
-- and by two harts that meet
pub mod Meets
-- nodes own words apart
pub mod Nodes
-- what somebody's turn makes of it who meets, and what is so whether anybody unites or not
pub mod Turned
pub mod Joining
-- who meets has the turns of its phases
pub mod Meeters
-- the round of a cycle is allowed
pub mod Rounds
-- who stands at a block is at a stage
pub mod Standing
-- the plan of a state, made once
pub mod TreeExample
