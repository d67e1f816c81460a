pub mod Prefixes
pub mod Boards
pub mod Adding
pub mod RowsKept
pub mod Keeping
pub mod Telling
pub mod Showing
pub mod Named
