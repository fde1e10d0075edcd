pub mod Calls
pub mod Laws
pub mod Making
pub mod Regions
pub mod Standing
