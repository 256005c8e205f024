pub mod ByEntries
pub mod Between
