pub mod Engine
pub mod ReadOff
