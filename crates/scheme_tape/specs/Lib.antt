pub mod Drafts
pub mod Encoding
pub mod Instructions
pub mod Reading
pub mod Said
pub mod Views
