pub mod Commands
pub mod Schemes
pub mod Steps
pub mod Tests
pub mod Views
