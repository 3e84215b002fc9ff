pub mod Cells
pub mod Counting
pub mod Filling
pub mod Making
pub mod Naming
