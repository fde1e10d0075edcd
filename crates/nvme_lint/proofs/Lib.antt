pub mod Playing
pub mod Regions
