-- a hart that runs private instructions
pub mod Walk
-- frames whose words stay
pub mod Frames
-- jumps, branches and halts
pub mod Does
-- ends of calls
pub mod Leaves
-- the opening
pub mod Begins
-- the code that all calls share
pub mod Copies
-- what calls clear
pub mod Clears
-- calls
pub mod Enters
-- the laws
pub mod Law
-- lines that are added
pub mod Rows
