pub mod Shown
pub mod Duties
pub mod Examples
pub mod Laws
pub mod TurnExamples
