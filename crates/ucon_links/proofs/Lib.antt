mod Cells
pub mod Linked
mod Moves
mod Stacks
mod ListsHeld
pub mod Places
mod Seen
mod Hiding
mod Placing
mod Unhiding
mod Freeing
mod Growing
mod Distinct
mod Steps
mod Reading
pub mod Restoring
pub mod Walking
mod Weights
mod Rows
mod Standing
mod IndexSteps
mod Stack
mod Listed
mod IndexHiding
mod Undone
mod Returning
mod Sums
mod Removing
mod Adding
mod IndexGrowing
mod Several
pub mod Walks
mod WhoStands
mod Added
mod There
