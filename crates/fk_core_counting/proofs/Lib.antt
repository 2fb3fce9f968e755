pub mod Folding
pub mod Ways
pub mod Forks
pub mod Walk
pub mod Lists
