pub mod Same
pub mod IsSame
pub mod Differences
pub mod Call
pub mod Says
