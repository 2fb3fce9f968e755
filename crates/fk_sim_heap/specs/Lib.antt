pub mod Count
pub mod Shows
pub mod Laws
