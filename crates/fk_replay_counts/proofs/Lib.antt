-- rounds of local operations
pub mod Quiet
-- a round and its parts
pub mod Parts
-- rounds of single operations
pub mod Singles
-- the members of a group
pub mod Together
-- whole runs
pub mod Steady
