pub mod Nearest
mod Rising
pub mod Turns
