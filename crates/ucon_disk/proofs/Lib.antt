mod Cuts
mod Elapsed
mod Filled
mod Histories
mod Kept
mod Portions
mod Settled
mod Writes
