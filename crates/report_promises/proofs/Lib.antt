pub mod Season
pub mod Full
pub mod Cutting
pub mod Demand1
pub mod Kept
pub mod Turns
pub mod Says
pub mod Worked
