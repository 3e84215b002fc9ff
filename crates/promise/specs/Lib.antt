pub mod Lives
pub mod Promises
pub mod Worked
