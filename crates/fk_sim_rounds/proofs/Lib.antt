-- an operation keeps the number of its processor
mod Numbers
-- requests on a whole store
mod Stores
-- the turns of processors are a round
pub mod Rounds
-- what follows a list follows its program
mod Programs
-- operators give words
mod Words
-- groups have no more members than there are processors
mod Few
-- values in runs are words
mod Ranges
-- steps of the tree keep them
mod RangeSteps
-- and rounds keep them
mod Keeps
-- what each operation keeps is kept in runs
pub mod Kept
-- cycles one after another
pub mod Cycles
-- the way from an index to its operation
pub mod Way
-- lists by hart, and by node
pub mod Lists
-- what a group agrees on
pub mod Agreed
-- who has committed comes to its next stage
pub mod Comes
-- behind a round, by itself and in lockstep
pub mod Keep
-- nodes that stay as they were
pub mod Same
-- all harts
pub mod Harts
-- groups
pub mod Groups
-- all of it, where no step changes the tree
pub mod Trees
-- the tree behind one step
pub mod Steps
-- a round in which two nodes step
mod TwoNodes
-- where the members of some nodes do steps
pub mod Moved
pub mod TreeAfter
pub mod Stays
pub mod Changed
-- back from the group of `start`
pub mod Resume
-- at the end of a body
pub mod Close
-- those who may meet at a word
pub mod Counts
-- behind a step, each by itself
pub mod Acted
-- words by which members may meet from then on
pub mod Opens
-- at the beginning of a body
pub mod Apart
-- who comes to a group that begins, or goes on with fewer
pub mod Gathers
-- where groups divide, shrink and end
pub mod Moves
-- where the group of `start` begins
pub mod Begun
pub mod Starts
-- and before it
pub mod Nearer
-- where all have met for it
pub mod Unite
-- each known round
pub mod Sum
-- groups that end
pub mod Rest
-- one program in a group
pub mod Program
-- from cycle to cycle
pub mod Cycle
-- processors at jumps, and at the operations that these lead to
pub mod Landed
-- rounds of a run, and what a cycle leaves
pub mod Results
-- levels of groups
pub mod Homes
pub mod HomesBegin
-- from one cycle to the next
pub mod Follow
-- to the round in which the group of `start` begins
pub mod Allowed
pub mod StartsInRuns
-- the words of the group to come
pub mod RestInRuns
-- where harts have ended
pub mod Ended
-- cycle by cycle
pub mod Machines
-- spaces of nodes that are not there
pub mod Transport
