pub mod Attributes
pub mod Filters
pub mod PileMasks
pub mod Piles
pub mod Questions
