pub mod Wants
pub mod Tests
pub mod LedTexts
pub mod Led
pub mod Evaluating
pub mod OneProgram
pub mod GroupSteps
pub mod Sites
-- the blocks of a list are few where its text has few operations
pub mod Small
mod Aims
mod Blocks
mod ListLaws
-- a `fork` tells of small frames
mod Forks
-- levels of a list have room in its frames
mod Rooms
-- processors stay in the tree of groups
pub mod Trees
-- code is made of a list that is certain
pub mod Generable
-- the image of a text is within the limits of images
pub mod Limits
-- an image that has the blocks of a text's list is faithful to the text
pub mod Theorem
-- the image that is put together of the code of a list
pub mod Made
-- so it never traps
pub mod Untrapped
-- a text that keeps all rules and has a layout can be lowered
pub mod Lowerable
