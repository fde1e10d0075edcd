pub mod Passed
mod AppliedLives
mod Still
mod QueueStates
mod QueueSets
mod Lives
mod PostCall
mod PostNumbers
mod PostItems
mod PostLog
mod PendingDeletions
mod Cookies
mod PutFlags
mod SlotItems
mod TakeCall
pub mod AnsweredPlaces
pub mod AnswerCall
pub mod DoorbellCalls
pub mod PickCall
pub mod MayPick
mod OldestEntry
mod SlotStates
mod FetchCalls
pub mod NoPosts
mod FetchTold
mod RungQueues
mod ComingRegions
mod AddCalls
pub mod HeldSlots
mod Depths
mod NewCall
pub mod OutEntries
mod Ending
pub mod LaterNotes
mod CarriedOut
mod AppliedQueues
mod CarryOut
mod Windowed
mod Opening
mod Dropping
mod CarryQueues
pub mod CarryAbort
mod DeleteBegins
mod Aborting
mod Standable
mod AdminCall
mod NamedQueues
mod FinishCall
mod PassCall
mod OwnCall
mod HoldCall
mod NamedTags
mod WaitingNames
mod KeptRanges
mod CommandVerdicts
mod SeenQueues
mod WaitingPlaces
pub mod Reordered
pub mod OutPlaces
pub mod OpenRegions
pub mod UnpostedPlaces
mod SomeDeleting
mod ServedQueues
mod ToldEffects
mod PlacesNeeded
mod PoolBounds
mod NextPost
mod ClearPools
