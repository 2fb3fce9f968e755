-- frames that are given back
pub mod Frames
-- requests
pub mod Asks
-- the states of runs
pub mod Safe
-- lists of programs
pub mod Lists
