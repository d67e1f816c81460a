pub mod Ahead
pub mod Found
pub mod Journal
pub mod JournalBytes
pub mod Opened
