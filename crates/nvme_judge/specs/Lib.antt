pub mod Turns
pub mod Standing
pub mod Starts
pub mod inside
