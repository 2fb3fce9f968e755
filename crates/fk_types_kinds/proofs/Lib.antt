pub mod Sets
pub mod Meeting
