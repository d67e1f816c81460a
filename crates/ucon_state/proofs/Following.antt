-- Lemmas of the laws on tables and traces. Declares nothing of its own.
pub mod Places
pub mod Names
pub mod Cells
pub mod Attributes
pub mod Entities
pub mod Acts
pub mod Sessions
pub mod Amending
pub mod Variables
pub mod Keeping
pub mod LegalTraces
pub mod Putting
pub mod Alike
