pub mod Counting
pub mod Editing
pub mod Holding
pub mod Listing
pub mod Placing
pub mod Taking
pub mod Writing
