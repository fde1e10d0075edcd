pub mod LineLemmas
pub mod ToldLemmas
