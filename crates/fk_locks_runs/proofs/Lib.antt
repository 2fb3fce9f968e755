pub mod Words
pub mod Rounds
