pub mod Board
pub mod Rule
pub mod Told
pub mod States
