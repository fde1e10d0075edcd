pub mod Documents
pub mod Faults
pub mod Expansion
pub mod Names
