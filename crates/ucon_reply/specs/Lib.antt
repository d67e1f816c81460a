pub mod Joined
pub mod Replies
pub mod Words
