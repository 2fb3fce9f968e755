pub mod Counted
pub mod Noted
pub mod Deep
pub mod Keeping
pub mod Laying
pub mod Opened
pub mod Listed
pub mod Refused
