pub mod Things
pub mod Class
pub mod Shared
