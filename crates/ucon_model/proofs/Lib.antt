pub mod Extending
pub mod Settling
mod SpelledLabels
mod SpelledReplies
mod Lacking
pub mod Scenes
pub mod FirstRun
pub mod HigherPullsLower
pub mod RevocationSavesNext
pub mod OrderOfPredicates
pub mod PayPerUseMusic
pub mod CapOfZero
pub mod EveryThirty
pub mod Clamps
pub mod FullSet
pub mod NotYours
mod AmendmentRevokes
mod WhatComesBack
mod RightsComeBack
pub mod Ticks
pub mod OwnCases
pub mod Allowed
pub mod AllowedWrites
pub mod LeastFailing
pub mod AllowedOwn
pub mod Histories
pub mod FewRevocations
pub mod GrownHistories
pub mod Cascades
pub mod WithinAndLasts
pub mod Lines
pub mod Payloads
pub mod Documents
mod GeneratedDocument
pub mod FirstFaults
pub mod TypedParts
pub mod KindsStay
pub mod ValuesGiven
pub mod ValuesStayFit
pub mod SortsOfValues
pub mod Meaningful
pub mod Numbering
mod Printed
mod Timely
mod Alike
mod Frames
mod TargetWrites
mod Readers
mod Revoking
mod Turns
mod Firsts
mod Working
mod WorkEnds
mod Acts
mod Deadlines
mod OwnMakes
mod OwnCovers
mod Sums
mod Touches
mod PassedDeadlines
mod OwnTouches
mod Drafts
mod WorkOfACap
mod WithinTurns
mod Agreeing
mod OwnUsages
mod Afterwards
pub mod AgreeingViews
pub mod NoSets
mod SerialRuns
mod StoredRuns
mod GoingOn
mod ReadBack
mod TellsChange
mod FoundOn
mod Batched
