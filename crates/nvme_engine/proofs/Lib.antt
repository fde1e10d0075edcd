pub mod Additions
mod Controllers
pub mod OneDeletion
mod Turn
mod FetchNotes
mod CompletionRegions
mod AddedRegions
mod Fresh
pub mod Accounts
pub mod Reordered
mod Calls
mod Deleting
mod Takes
mod Answering
mod Reading
mod Posting
mod PostSteps
mod Ends
mod Serving
mod MadePlaces
mod NextPicks
mod QuietNotes
mod NoneOwn
mod Endings
mod AdminQueues
mod OpenBounds
mod Observed
mod PickCalls
mod Places
