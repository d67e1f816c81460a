pub mod Refusing
pub mod Text
