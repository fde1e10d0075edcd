pub mod Balances
pub mod Made
pub mod Prefixes
