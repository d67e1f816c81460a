pub mod Dependents
pub mod Layout
pub mod Lists
pub mod OneList
pub mod Table
pub mod Tables
pub mod Walk
