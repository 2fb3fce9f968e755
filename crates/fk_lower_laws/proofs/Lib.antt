pub mod Waiting
mod Deeper
mod Nested
mod TypedOk
mod Acting
mod TypedForms
mod TypedStatements
pub mod TypedPrograms
pub mod Mains
pub mod Typing
mod Examples
pub mod Bindings
pub mod Firsts
pub mod Laid
mod Tokens
mod Places
mod Scalars
mod Addresses
mod Valid
mod AskedNames
mod Calls
mod Members
mod Expressions
mod Statements
mod FrameLevels
mod Parts
pub mod Programs
pub mod Ok
mod Forms
pub mod NamedStatements
pub mod Low
pub mod Frames
pub mod Items
pub mod Apart
pub mod Free
mod Runs
mod Sized
mod Living
pub mod Suiting
pub mod Values
pub mod Functions
pub mod Slots
pub mod Names
pub mod Own
pub mod Room
mod Heights
pub mod TallLists
pub mod Lists
mod Framing
mod Shrinking
