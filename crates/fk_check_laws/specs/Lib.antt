pub mod Correct
pub mod Conditions
pub mod Laws
pub mod Valid
