pub mod Leaf
pub mod Arrival
pub mod Record
pub mod Records
pub mod Matched
pub mod Plan
