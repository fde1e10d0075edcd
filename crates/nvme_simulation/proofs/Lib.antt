mod Beginnings
mod Creating
mod First
pub mod Handling
mod Hosted
mod Machines
mod Moves
pub mod Plans
mod Pools
mod Progress
mod Quiet
mod Resting
pub mod Rooms
mod Runs
mod Started
mod Stepping
mod Taking
mod Telling
mod Waiting
pub mod Waits
