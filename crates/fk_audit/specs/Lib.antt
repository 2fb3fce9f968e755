pub mod Access
pub mod Touch
pub mod Clash
pub mod Mark
