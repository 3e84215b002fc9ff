pub mod Closing
pub mod Comparing
pub mod Growing
pub mod Least
pub mod Making
pub mod Needs
pub mod Taking
