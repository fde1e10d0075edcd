pub mod Before
pub mod Pools
pub mod DeviceRuns
pub mod Refills
pub mod Runs
pub mod Stretches
pub mod Laws
pub mod Examples
