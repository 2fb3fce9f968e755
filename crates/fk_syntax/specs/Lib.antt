pub mod Tree
pub mod View
pub mod Program
pub mod ProgramView
pub mod Nodes
pub mod WellFormed
