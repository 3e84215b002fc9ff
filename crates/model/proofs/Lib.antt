pub mod Containing
pub mod Growing
pub mod Labels16
pub mod Rights
pub mod Stamps
pub mod Unbroken
