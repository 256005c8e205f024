pub mod Cutting
pub mod Season
pub mod Kept
pub mod Turns
pub mod Says
pub mod Demand1
