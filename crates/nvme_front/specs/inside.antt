-- What only private contracts cite: no public clause reaches it (profile).
pub mod Dispatching
pub mod Fetching
pub mod Goes
pub mod Loads
pub mod Looks
pub mod Pushing
pub mod Resting
pub mod Room
pub mod State
pub mod Turn
