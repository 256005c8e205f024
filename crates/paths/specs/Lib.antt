pub mod Leaf
pub mod Plan
pub mod Steps
