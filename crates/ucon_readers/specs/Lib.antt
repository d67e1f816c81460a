pub mod Joining
pub mod Limits
pub mod Timers
pub mod Lists
pub mod Listing
pub mod Readers
