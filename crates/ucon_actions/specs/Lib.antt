pub mod Leads
pub mod Gives
pub mod Updating
pub mod Sessions
