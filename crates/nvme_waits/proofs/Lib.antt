pub mod Greatest
pub mod Taken
pub mod Within
