pub mod Telling
pub mod inside
