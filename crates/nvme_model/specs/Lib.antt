pub mod Arrivals
pub mod Devices
pub mod Laws
pub mod Models
pub mod Queues
pub mod Times
