pub mod Reading
pub mod Parts
pub mod Headers
pub mod View
