pub mod OneCode
pub mod ReadingBack
pub mod Worked
