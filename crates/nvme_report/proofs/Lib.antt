mod Completions
pub mod LoadedReports
mod Counted
mod Lines
mod Loops
mod Parts
mod Tallied
