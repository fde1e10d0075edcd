pub mod Flat
pub mod Members
pub mod ReadBack
mod FirstTold
