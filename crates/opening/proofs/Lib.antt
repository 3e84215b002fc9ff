pub mod Answering
pub mod Exact
pub mod Forming
pub mod Language
pub mod Rooms
pub mod Soundness
pub mod Taking
pub mod Worked
