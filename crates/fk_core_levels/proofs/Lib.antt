pub mod Raised
pub mod Settling
pub mod Telling
pub mod Swept
pub mod Lasts
pub mod Opened
