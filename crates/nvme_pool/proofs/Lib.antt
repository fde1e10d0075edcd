pub mod Beginnings
pub mod Gaining
pub mod Keeping
pub mod Once
pub mod Retiring
pub mod Running
pub mod Standing
