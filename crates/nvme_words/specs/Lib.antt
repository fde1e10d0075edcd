pub mod CommandLine
pub mod Examples
pub mod Once
pub mod Requests
pub mod Words
pub mod inside
