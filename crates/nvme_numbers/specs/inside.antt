pub mod Bounds
pub mod Lines
pub mod Unions
