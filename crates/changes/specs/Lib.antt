pub mod Changes
pub mod Making
pub mod Names
pub mod Puts
