pub mod Alike
pub mod Answer
pub mod Laws
