pub mod Touched
pub mod Served
pub mod LeastWords
pub mod Marked
pub mod First
pub mod Clashing
