-- Names, values and numbers that have their texts: in policies, in lines that are read, in traces.
pub mod Tokens
pub mod Policies
pub mod Rising
pub mod Values
pub mod ReadValues
pub mod ReadCommands
pub mod Traces
pub mod Blocks
