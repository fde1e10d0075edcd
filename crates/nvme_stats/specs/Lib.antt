pub mod Chosen
pub mod Counted
pub mod Looked
pub mod Rows
