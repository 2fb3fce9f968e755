pub mod References
pub mod View
pub mod Found
