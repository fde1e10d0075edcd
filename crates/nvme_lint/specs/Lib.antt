pub mod Lints
pub mod Parts
pub mod Warnings
pub mod inside
