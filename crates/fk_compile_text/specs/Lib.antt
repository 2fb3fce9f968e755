pub mod Text
pub mod Refusal
