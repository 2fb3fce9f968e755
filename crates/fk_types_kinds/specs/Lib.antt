pub mod Rows
pub mod Met
