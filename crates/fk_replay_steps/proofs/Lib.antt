pub mod Ends
pub mod ReadAt
pub mod Landing
pub mod Counted
pub mod Words
pub mod Arguments
pub mod Rooms
