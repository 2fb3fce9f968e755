pub mod Height
pub mod Depths
pub mod Telling
pub mod Counting
pub mod Noting
pub mod Whole
pub mod Laid
pub mod Lowered
