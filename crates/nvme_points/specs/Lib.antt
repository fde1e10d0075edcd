pub mod Documents
pub mod Estimates
pub mod Examples
pub mod Overridden
pub mod Points
pub mod Rows
pub mod Runs
pub mod Values
