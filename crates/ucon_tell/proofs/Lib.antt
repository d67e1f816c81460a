pub mod Dating
pub mod Fronts
pub mod Hearing
pub mod Noting
pub mod Talked
