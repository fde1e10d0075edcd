pub mod Balances
pub mod Examples
pub mod Occupancies
pub mod Stays
