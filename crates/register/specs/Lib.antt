pub mod Openings
pub mod Reads
pub mod Requests
pub mod States
pub mod Views
pub mod Worked
