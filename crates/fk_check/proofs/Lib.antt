pub mod Apart
pub mod OneFacts
pub mod Told
