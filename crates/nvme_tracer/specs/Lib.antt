pub mod Text
pub mod Traces
