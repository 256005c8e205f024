pub mod Fit
pub mod Fill
pub mod Words
