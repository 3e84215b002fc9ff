pub mod Boards
pub mod Matrices
pub mod RecordLists
pub mod Records
pub mod Unfit
