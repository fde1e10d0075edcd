pub mod Counts
pub mod Ranks
