pub mod Members
pub mod Changing
pub mod Loop
pub mod Settling
