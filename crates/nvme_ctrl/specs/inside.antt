-- What only private contracts cite: no public clause reaches it (profile).
pub mod Picks
pub mod Posting
pub mod Fetching
pub mod Loose
pub mod Carrying
pub mod Turns
