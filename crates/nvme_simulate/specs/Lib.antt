pub mod Answers
pub mod Chosen
pub mod Examples
pub mod Loads
pub mod Options
pub mod Played
pub mod Scaling
pub mod Trace
