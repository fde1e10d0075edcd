pub mod Examples
pub mod inside
pub mod Quotients
pub mod Rows
pub mod Strings
pub mod Tables
pub mod Values
