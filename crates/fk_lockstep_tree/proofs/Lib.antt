-- operations, by where they stand
pub mod Moves
-- levels, along the nodes above one's own
pub mod Paths
-- what each processor has done before the steps of the tree
pub mod Acts
-- who steps
pub mod Known
-- what a step makes of the tree
pub mod Stepped
-- and of those who take it
pub mod After
-- and of the words of the nodes
pub mod Ranges
-- which groups are in a round
pub mod Taken
-- those who wait
pub mod Waiters
-- the beginning
pub mod Opening
-- whole runs
pub mod Runs
-- those in which nobody forks
pub mod Uncounted
pub mod Held
pub mod Whole
pub mod Run
mod Example
mod SplitExample
mod PassedOver
pub mod Beside
pub mod Carried
pub mod Lists
