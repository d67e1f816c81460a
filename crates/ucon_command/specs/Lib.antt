pub mod Cuts
pub mod Faults
pub mod Payloads
pub mod Requests
