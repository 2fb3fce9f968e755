pub mod Variables
pub mod Constants
pub mod Rows
pub mod View
pub mod Fault
pub mod Leaves
