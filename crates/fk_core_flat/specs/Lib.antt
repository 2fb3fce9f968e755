pub mod Items
pub mod Flat
pub mod Shape
pub mod Laws
pub mod Fitting
pub mod Runs
