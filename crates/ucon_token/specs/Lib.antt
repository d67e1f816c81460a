pub mod Literals
pub mod Reader
pub mod Seen
pub mod Tokens
pub mod Reading
