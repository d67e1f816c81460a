pub mod Hearing
pub mod Models
pub mod OneAnswer
pub mod Runs
pub mod Tallies
pub mod Transcript
