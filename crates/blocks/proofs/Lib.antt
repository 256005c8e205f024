pub mod Columns
pub mod Leaves
pub mod Merge
pub mod Over
pub mod Turns
pub mod Counted
pub mod BlockTurns
pub mod PlaceBlocks
