pub mod Classes
pub mod FedUnions
pub mod Feeds
pub mod Jain
pub mod Places
pub mod Ranks
pub mod Tallies
