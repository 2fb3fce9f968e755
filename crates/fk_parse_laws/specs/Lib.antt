pub mod Every
pub mod Words
pub mod Trim
pub mod Order
pub mod Levels
pub mod Program
