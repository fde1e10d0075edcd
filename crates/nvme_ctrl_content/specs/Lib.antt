pub mod Content
pub mod Standing
pub mod Shown
pub mod Order
pub mod Steps
pub mod Carrying
