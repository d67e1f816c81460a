pub mod Dated
pub mod Faults
pub mod Heard
pub mod Noted
pub mod Seen
pub mod Talk
pub mod Told
