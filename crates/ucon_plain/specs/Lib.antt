pub mod Cascading
pub mod Monitor
