-- the elements of a list, one by one
pub mod Elements
-- how far tokens reach, and how few items they make
pub mod Bounds
-- the answers of its parts are those of the whole
pub mod Parts
-- what is too much of a text tells of its functions, and refuses it
pub mod Large
-- rows end where all shared variables of file scope do
pub mod Shared
-- a search has met none so far
pub mod Searches
