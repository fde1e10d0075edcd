pub mod Begun
pub mod Bits
pub mod Idle
pub mod OneByOne
pub mod Order
pub mod Steady
