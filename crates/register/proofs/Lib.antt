pub mod Asking
pub mod Carrying
pub mod EntriesPut
pub mod Excerpts
pub mod Leaving
pub mod Limits
pub mod Worked
