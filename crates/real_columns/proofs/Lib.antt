pub mod Making
pub mod Columns
pub mod ShortReals
pub mod NearInts
pub mod Over
