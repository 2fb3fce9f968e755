pub mod Code
pub mod Tables
pub mod Signs
pub mod Texts
pub mod Expressions
pub mod Statements
pub mod Program
pub mod Ranks
