pub mod Channel
pub mod Devices
pub mod Examples
pub mod Laws
pub mod Reaches
pub mod Runs
pub mod Steps
pub mod inside
