pub mod Rings
pub mod Generations
pub mod Examples
pub mod Pool
pub mod Lookups
