pub mod Signed
pub mod Named
