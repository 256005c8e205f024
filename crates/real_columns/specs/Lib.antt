pub mod Reals
pub mod Short
pub mod Near
