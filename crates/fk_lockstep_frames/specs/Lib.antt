pub mod Nests
pub mod Taken
pub mod Lists
