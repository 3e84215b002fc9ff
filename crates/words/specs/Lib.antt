pub mod Lines
pub mod Listings
pub mod Masks
pub mod Roles
pub mod Sentences
pub mod Stamps
pub mod States
pub mod Words
