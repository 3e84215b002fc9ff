pub mod Tables
pub mod Tapes
