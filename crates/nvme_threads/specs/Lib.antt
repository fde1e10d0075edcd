pub mod Faults
pub mod Fed
pub mod Hosts
pub mod Loaded
pub mod Runs
pub mod inside
