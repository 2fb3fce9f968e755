-- what a few instructions on words come to
pub mod Words
-- code by what its instructions reach
pub mod Local
-- what code on registers gives
pub mod Operators
-- words among values
pub mod Values
-- the block of each operation
pub mod Expressions
-- the shape of the blocks
pub mod Shape
