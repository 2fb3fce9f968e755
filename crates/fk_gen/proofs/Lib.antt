-- how a hart runs quiet lines
pub mod Walk
-- lines that are added one by one
pub mod Emitted
-- the laws of blocks from the hart behind them
pub mod Does
-- values in frames, addresses, and numbers
pub mod Values
-- jumps and branches
pub mod Jumps
-- what a processor has in memory
pub mod Standing
-- values that blocks take and give
pub mod ValueLines
-- the difference of two words
pub mod Difference
-- sizes in bytes, and masks of ones
pub mod Sizes
