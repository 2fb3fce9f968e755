pub mod OpenFrames
pub mod WordRoom
pub mod WordLaws
pub mod Proper
