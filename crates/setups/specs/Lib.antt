pub mod Making
pub mod Setups
pub mod Stores
