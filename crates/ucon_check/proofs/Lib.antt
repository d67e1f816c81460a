pub mod Alike
pub mod Counting
pub mod Declared
pub mod Parts
pub mod Searches
pub mod Telling
