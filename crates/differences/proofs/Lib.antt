pub mod Says
pub mod IsSame
pub mod Converted
pub mod Alike
pub mod Worked
