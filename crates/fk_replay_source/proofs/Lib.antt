pub mod Forms
pub mod Carried
pub mod Passed
pub mod Accepted
pub mod Known
pub mod Sites
