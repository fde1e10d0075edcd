pub mod Executions
pub mod Examples
pub mod Answers
pub mod Balance
pub mod Hands
pub mod JobAccount
pub mod inside
