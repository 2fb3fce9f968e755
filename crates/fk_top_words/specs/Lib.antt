pub mod Arguments
pub mod Asked
pub mod Command
pub mod Written
