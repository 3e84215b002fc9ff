pub mod Encoding
pub mod Items
pub mod Opened
pub mod Reading
pub mod Rules
pub mod Said
pub mod Worked
