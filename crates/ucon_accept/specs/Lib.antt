pub mod Facts
pub mod Explanation
pub mod Told
pub mod Worth
pub mod Judged
pub mod Checking
pub mod Trying
