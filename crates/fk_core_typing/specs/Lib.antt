pub mod LocalDepths
pub mod AddressValues
pub mod LocalAddresses
pub mod Values
pub mod Typed
pub mod Heights
pub mod Laws
