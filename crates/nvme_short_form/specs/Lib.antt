pub mod Keys
pub mod Readings
pub mod Commands
pub mod Scripts
pub mod Queues
pub mod Admin
pub mod Form
pub mod Flaws
