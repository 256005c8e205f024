pub mod Digits
pub mod Leaf
pub mod Pieces
pub mod Tests
