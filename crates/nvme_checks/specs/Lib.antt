pub mod Identifiers
pub mod Status
pub mod Laws
pub mod Examples
