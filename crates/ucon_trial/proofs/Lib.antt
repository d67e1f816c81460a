pub mod Along
pub mod Replies
pub mod Summing
pub mod Tallying
pub mod Transcribing
