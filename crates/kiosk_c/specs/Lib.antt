pub mod Codes
pub mod Worked
