pub mod Answers
pub mod Paced
pub mod Moments
pub mod Laws
