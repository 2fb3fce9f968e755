pub mod Arguments
pub mod Last
pub mod Printed
pub mod Stepwise
