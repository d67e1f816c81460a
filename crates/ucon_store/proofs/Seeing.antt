-- What opening sees from the last checkpoint on.
pub mod InForce
pub mod SameReadings
pub mod SameReplies
pub mod SameRows
pub mod Listed
pub mod SameHeld
pub mod SpelledRows
pub mod Histories
pub mod Walk
pub mod Ordered
pub mod Points
pub mod ReadBack
pub mod Found
pub mod Nothing
pub mod OneThing
pub mod Always
