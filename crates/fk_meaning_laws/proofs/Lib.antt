-- what the tests of an allowed round tell of each processor
pub mod Joint
