pub mod AfterSteps
mod StepKeeps
pub mod Windows
pub mod Named
pub mod Regions
pub mod PostedPlaces
pub mod AdminPick
pub mod Counts
pub mod QueueWords
pub mod QueueChanges
mod QueueVerdicts
pub mod QueueSteps
pub mod Observing
pub mod Showing
pub mod Ordering
pub mod Oldest
mod DeletionSteps
mod LifeSteps
pub mod LifeLaws
pub mod AskedSlots
pub mod TableSteps
mod ArbitrationSteps
pub mod Readying
mod ReadyChange
pub mod ReadyHand
pub mod ReadyAdmin
mod AbortReady
mod ReadySteps
pub mod OpenQueues
pub mod DeletedQueues
pub mod HandSteps
mod AnswerSteps
pub mod OwnStatus
mod OwnSteps
pub mod NextEvents
pub mod AdminEvents
pub mod Standing
pub mod DeletingRegions
pub mod FewUnposted
pub mod Growing
pub mod FurtherStanding
pub mod Beginning
