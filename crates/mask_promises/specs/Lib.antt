pub mod Bits
pub mod Demand1
pub mod Mask
pub mod Reach
