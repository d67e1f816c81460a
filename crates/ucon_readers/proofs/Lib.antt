pub mod Outcomes
pub mod Listed
pub mod Leading
pub mod Founding
pub mod Walking
pub mod First
pub mod Undoing
pub mod Placed
