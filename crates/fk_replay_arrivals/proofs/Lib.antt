-- who becomes known
pub mod Begun
-- who has come to joint operations
pub mod Counting
-- what is known when one comes
pub mod Arriving
-- what a processor is before
pub mod Coming
-- what is known while all of them come
pub mod Telling
