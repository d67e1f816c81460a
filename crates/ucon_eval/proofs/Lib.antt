pub mod SameTexts
pub mod Places
pub mod Rows
