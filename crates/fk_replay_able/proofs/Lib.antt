-- who could act
pub mod Able
-- what a round leaves
pub mod Rounds
-- who could act after a round
pub mod Behind
-- how many have a property
pub mod Numbers
-- what is known after a round
pub mod Counted
-- what becomes known when one comes
pub mod Arrivals
