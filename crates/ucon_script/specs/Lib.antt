pub mod Coming
pub mod ComingScript
pub mod Document
pub mod Generator
pub mod Lines
pub mod Stopping
