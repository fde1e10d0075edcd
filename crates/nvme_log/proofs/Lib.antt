pub mod Prefixes
pub mod Fates
pub mod Posts
mod ExampleLogs
mod FourNumbers
mod AbortLogs
pub mod Members
mod Aborting
pub mod AbortEntries
pub mod Tables
pub mod Waiting
pub mod Turns
pub mod AbortLaws
pub mod AbortAnswers
pub mod Counting
pub mod UsedRegions
pub mod PickCounts
pub mod Promise
pub mod LoadedPlaces
pub mod LoadedRegions
pub mod LoadedSteps
pub mod LoadedLaws
mod LoadedExamples
pub mod WithoutPosts
pub mod LoadedTurns
pub mod PostsApart
pub mod OwnStays
pub mod PostCounts
mod PickedOnce
mod BrokenPromises
pub mod LogLengths
pub mod AdminPicks
pub mod Foreseen
pub mod AnswerLaws
mod AnswerExamples
