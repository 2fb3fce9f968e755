pub mod Count
pub mod Forks
pub mod Behind
pub mod Levels
pub mod Open
