mod ExampleLogs
pub mod OwnRegions
mod PickEvents
mod CqRegions
mod SqRegions
mod ShutRegions
pub mod Agreeing
pub mod Answered
pub mod Steps
mod Verdicts
pub mod EachEvent
pub mod AdminQueues
pub mod AdminTurns
pub mod Phases
mod PickedCommands
mod PhaseSteps
pub mod Queues
pub mod IoQueues
pub mod Fetches
mod CqsAlone
mod CqTurns
mod CqPhases
mod CqSteps
mod CqQueues
pub mod Completions
pub mod Doorbells
mod TurnExamples
