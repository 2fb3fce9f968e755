pub mod Inside
pub mod Nested
pub mod Texts
