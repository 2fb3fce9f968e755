-- what each operation keeps, runs keep
pub mod Rounds
-- what operations make of the frames
pub mod Steps
-- the law of runs
pub mod Runs
-- the law of spaces
pub mod Lies
-- the frames of parts
pub mod Firsts
-- the next operation of a position in a list
pub mod Found
-- the law of lists
pub mod Lists
-- a list by hand
mod Example
