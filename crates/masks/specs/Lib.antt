pub mod Mask
pub mod Says
