pub mod Bounds
pub mod Examples
pub mod Laws
pub mod Longest
pub mod Texts
pub mod Waits
