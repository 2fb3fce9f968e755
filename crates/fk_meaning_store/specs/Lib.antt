pub mod Store
pub mod Serve
pub mod View
