pub mod Fit
pub mod Fill
pub mod Made
pub mod Parts
