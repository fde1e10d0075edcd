pub mod Noted
pub mod Served
pub mod TagLaws
pub mod Arranged
pub mod Accounted
mod Slots
mod Deletions
mod ExampleNotes
mod WrongNotes
mod ArrangedExamples
pub mod LaterEvents
pub mod HandedPicks
pub mod AbortTargets
pub mod ServedPlaces
pub mod AbortRequests
pub mod OutstandingPlaces
pub mod AbortCounts
pub mod QueueWords
pub mod UsedCqRegions
pub mod LifeLaws
pub mod AskedSlots
pub mod Readying
pub mod AbortsLeave
pub mod EffectEvents
pub mod OutTags
pub mod ToldQueues
pub mod AddedTables
pub mod Growing
pub mod DoorbellCounts
pub mod FurtherRegion
pub mod FurtherTables
pub mod FurtherHistories
pub mod TakenCommands
mod ShownPicks
pub mod FurtherAnswers
pub mod NotedRegions
pub mod FurtherAccounts
pub mod Sums
mod LateNotes
pub mod Handing
mod Posting
mod ReadyOrder
mod PassedNotes
mod AbortNotes
pub mod ToldVerdicts
pub mod CountedCreates
mod StepCounts
