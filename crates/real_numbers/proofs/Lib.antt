pub mod Machine
pub mod Leading
pub mod Cutting
pub mod Converted
pub mod Reals
