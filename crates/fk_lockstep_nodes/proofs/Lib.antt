-- what a step does at its own node
pub mod Local
-- the step of one node more
pub mod More
-- the steps of all nodes
pub mod Nodes
-- the step of one node alone
pub mod One
