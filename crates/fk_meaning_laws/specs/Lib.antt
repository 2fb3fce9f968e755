pub mod Joint
