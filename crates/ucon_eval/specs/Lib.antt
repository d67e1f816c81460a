pub mod Worth
pub mod Sort
pub mod Operation
