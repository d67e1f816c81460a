pub mod Ending
pub mod FaultWords
pub mod Out
