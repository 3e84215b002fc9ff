pub mod Above
pub mod Guarding
pub mod KioskLeast
pub mod KioskLives
pub mod Lasting
pub mod Worked
