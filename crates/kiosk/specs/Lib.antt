pub mod Answers
pub mod Checking
pub mod Desks
pub mod Sessions
pub mod States
