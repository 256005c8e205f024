pub mod Promise
pub mod Demand1
pub mod Kept
pub mod Own
