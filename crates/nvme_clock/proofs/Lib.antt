pub mod Digits
pub mod EventOrder
pub mod Fairness
pub mod Rising
pub mod Sorting
pub mod Turns
