pub mod Examples
pub mod Laws
pub mod Quantiles
pub mod Times
