pub mod Pieces
pub mod Checks
pub mod Clamping
pub mod Kept
