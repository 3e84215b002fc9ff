pub mod Ending
pub mod Language
pub mod Law
pub mod Lengths
pub mod Running
pub mod Shaping
