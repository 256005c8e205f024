pub mod Promises
pub mod Turns
pub mod Demand1
pub mod Kept
pub mod Own
