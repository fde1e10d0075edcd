mod JobAccounts
pub mod PickedPlaces
pub mod Leaving
pub mod JobSteps
pub mod InHand
pub mod Balances
pub mod Answered
pub mod Tickets
