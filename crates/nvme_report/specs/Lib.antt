pub mod Report
pub mod Rows
pub mod Laws
pub mod inside
