pub mod Holding
pub mod Lexed
pub mod Expressions
pub mod Bodies
pub mod WordsInPrograms
mod TrimPrograms
mod Picked
pub mod Ordered
mod Listed
mod Behind
mod Statements
pub mod FramesInPrograms
pub mod Levels
