-- What only private contracts cite: no public clause reaches it.
pub mod Carrying
