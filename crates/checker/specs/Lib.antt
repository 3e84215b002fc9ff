pub mod Checks
pub mod Containing
pub mod Flaws
pub mod Judgements
pub mod Safety
pub mod Worked
