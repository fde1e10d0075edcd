pub mod Dwords
pub mod Exact
