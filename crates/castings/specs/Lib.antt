pub mod Binding
pub mod Castings
pub mod Closure
pub mod Conditions
pub mod Escapes
pub mod Numbers
pub mod Places
pub mod Shifts
