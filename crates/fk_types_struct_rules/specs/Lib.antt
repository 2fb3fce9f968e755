pub mod Declarations
pub mod Structs
pub mod Holding
