pub mod Given
pub mod Risen
pub mod Stored
pub mod Taken
pub mod Pieces
