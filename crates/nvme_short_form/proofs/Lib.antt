pub mod Flaws
pub mod Turns
pub mod Runs
mod Gathered
