pub mod Models
pub mod Waits
