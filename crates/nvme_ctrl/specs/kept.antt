-- What it means that a controller stands at its log: what it keeps, with the places of its commands, and the slots that they are in. Who
-- calls a controller needs of it only that the log is an account; crates that prove more of a controller of their own cite it (profile).
pub mod State
pub mod QueueSets
pub mod Kept
