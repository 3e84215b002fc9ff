pub mod Binding
pub mod Cells
pub mod Coming
pub mod Listing
pub mod Moves
pub mod Noting
