pub mod Limits
pub mod View
pub mod Feeder
pub mod Drainer
pub mod Hands
pub mod Balance
pub mod Passes
pub mod Shares
