pub mod Fields
pub mod States
pub mod Tables
pub mod Controllers
pub mod Batches
