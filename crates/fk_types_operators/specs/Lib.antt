pub mod Values
pub mod Signs
