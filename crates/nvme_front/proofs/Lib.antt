mod Comes
mod States
pub mod Starting
mod RegionSteps
mod RegionLists
pub mod Addresses
mod EngineRegions
mod AddedRegions
mod Beginnings
mod FirstRuns
mod Newly
mod SqEnds
mod SameTags
mod EngineFacts
mod RunningFacts
mod ApartNumbers
mod HeldTags
mod TagSteps
mod Drained
mod Weighing
mod TakenCommands
mod ReadyPlaces
mod Fetches
mod Scans
mod PostOne
mod CloseOne
mod PickedJobs
mod PickedQueue
mod OpenQueues
mod Beside
pub mod EndsSeen
mod Ended
mod Hosted
mod Executions
mod Rested
mod Turns
mod Still
mod Filling
mod HandedOver
mod ServedAnswers
mod ClearAnswer
mod Results
mod ClosedRegions
mod GainOne
pub mod HostPairs
pub mod Loading
mod LoadedFetch
mod LoadedPick
mod PickedAdmin
mod Picking
mod Deletes
