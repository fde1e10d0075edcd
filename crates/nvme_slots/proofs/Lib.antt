pub mod Turns
pub mod Pools
pub mod Generations
pub mod Chains
pub mod Phases
pub mod Freeing
