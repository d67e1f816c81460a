pub mod Runs
pub mod Fuel
pub mod Rises
pub mod Texts
