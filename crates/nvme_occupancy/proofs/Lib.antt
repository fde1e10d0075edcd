pub mod Balance
pub mod Little
