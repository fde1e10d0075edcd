-- What the crates above cite in their proofs alone: no public clause of theirs reaches it (profile).
pub mod Fifo
pub mod Gains
pub mod Jobs
pub mod Standing
