-- members, counts and joint operations, by their places
pub mod Places
-- what is left of a whole round
pub mod Back
-- the whole round that there is
pub mod There
