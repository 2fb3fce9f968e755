pub mod Program
pub mod Traced
