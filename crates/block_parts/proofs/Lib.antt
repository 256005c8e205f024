pub mod Shifts
pub mod Parts
pub mod Chunks
