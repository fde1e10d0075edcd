pub mod Statuses
pub mod Laws
pub mod Examples
