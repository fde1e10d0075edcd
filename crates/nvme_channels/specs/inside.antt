-- What only private contracts cite: no public clause reaches it. (profile)
pub mod Marks
pub mod Words
