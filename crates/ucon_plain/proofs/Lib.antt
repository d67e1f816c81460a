pub mod Blocks
pub mod Least
pub mod Standing
pub mod Failing
