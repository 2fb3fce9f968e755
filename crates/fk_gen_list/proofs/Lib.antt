pub mod Blocks
pub mod InImage
pub mod Near
pub mod Chain
pub mod AllPlaced
-- what calls clear
pub mod Clears
pub mod Laid
pub mod Shapes
pub mod Whole
pub mod Laying
pub mod Suited
-- where calls return
pub mod Returns
pub mod BlockLaws
-- the events of commits
pub mod Marked
pub mod Told
pub mod Done
pub mod Steps
-- how many cycles blocks take at most
mod Few
-- where harts begin
pub mod Opening
-- lists in whose frames no level stands
pub mod Levels
-- the code of a list without groups
pub mod Generated
-- what processors do alone
pub mod Law
-- the cycles of an operation at its index
mod At
-- steps of groups, and the whole law
pub mod Groups
-- where no level stands in a frame
pub mod WholeGroups
-- the premises of `generate`, met by a small list
mod Example
