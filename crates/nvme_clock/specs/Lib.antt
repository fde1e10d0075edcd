pub mod Draws
pub mod Durations
pub mod Events
pub mod Examples
pub mod Held
pub mod Quantiles
pub mod Streams
pub mod Tables
