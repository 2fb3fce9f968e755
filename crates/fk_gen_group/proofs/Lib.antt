-- what instructions come to
pub mod Performs
-- the turns of a hart that meets
pub mod Steps
-- all who meet
pub mod Turns
-- some meet while others go on
pub mod Chains
-- members at one place, each with its processor
pub mod Members
-- the levels round a processor
pub mod Levels
-- a hart behind a block that leaves its memory
pub mod Behind
-- where the last value stands
pub mod Last
-- agreeing
pub mod Agree
-- the blocks that lead to a meeting
pub mod Meets
-- that they are in phases there
pub mod Phases
-- a step that each member does by itself
pub mod Taking
-- a group frame is taken
pub mod Frames
-- a block of `shalloc` is taken
pub mod Shallocs
-- all members begin to run a body
pub mod Farms
-- one member runs a body
pub mod Seqs
-- the end of the group of `start`
pub mod Ends
-- the levels that frames save
pub mod Slots
-- the end of a part of a `fork`
pub mod ForkEnds
-- the end of a part
pub mod PartEnds
-- what members give to words
pub mod Shares
-- how they count
pub mod Counting
-- who stays in a loop
pub mod Shrinks
-- the lines of a split up to shared code
pub mod Fronts
-- what the control words of parts have behind a split
pub mod PartSizes
-- where the parts of a `fork` lie
pub mod ForkSizes
-- where members count themselves at a `fork`
pub mod Forks
-- a split without room
pub mod Lacks
-- where members count themselves at a split, and how they enter parts
pub mod Parting
-- all members count in lockstep
pub mod Counted
-- what a member has at its commit
pub mod Committed
-- all members that have counted
pub mod Divided
-- a group that divides into one part
pub mod OnePart
-- a group that divides into two
pub mod TwoParts
-- how members go on after a `fork`
pub mod ForkWays
-- a group that divides by a `fork`
pub mod ForkDivides
-- a group that divides
pub mod Divides
-- the size of the group of `start`
pub mod Sizes
-- the beginning of `start`
pub mod Starts
-- blocks that keep the words of frames
pub mod InNode
-- calls and their ends
pub mod Calls
-- all that processors do alone
pub mod Alone
-- the events of commits
pub mod Marked
-- evaluated examples
pub mod Examples
