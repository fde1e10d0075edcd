pub mod Examples
pub mod Fractions
pub mod Lists
pub mod Speeds
pub mod Texts
