pub mod Placed
pub mod Struct
pub mod Take
pub mod Items
