-- the tree
pub mod Trees
pub mod Levels
-- where operations stand, and where they go on
pub mod Ways
-- those in the root
pub mod Root
-- the frames of parts
pub mod Finds
-- what they save of `@` and `$`
pub mod Numbers
-- what each processor does next
pub mod Nexts
-- and each group
pub mod Groups
-- runs
pub mod Reached
-- rounds
pub mod Known
-- the words of nodes in a cycle
pub mod Over
-- and the last one of a run
pub mod ReachedRuns
-- the words of the group to come
pub mod Ready
-- those who begin a group, and those who wait for it
pub mod Begins
-- who goes on in a round
pub mod Marked
-- what a round leaves
pub mod Behind
-- rounds by stages
pub mod ReachedStages
-- a list that is as is asked
mod Example
-- the beginning
pub mod Opening
-- the stage of one hart
pub mod Stages
-- the pace, from one round to the next
pub mod Pace
-- what a cycle makes of harts and of those who meet
pub mod Turning
-- who is near its commit is in time
pub mod Soon
-- those who have met at the beginning of `start`
pub mod United
-- who could act
pub mod Able
-- whole runs, over what is known of a machine beside a state
pub mod Induction
-- as it is said in the law
pub mod Runs
-- who unites is about to begin
pub mod Begin
-- states that the machine comes to
pub mod Machines
-- whole runs
pub mod Whole
