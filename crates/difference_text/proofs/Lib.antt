mod Columns
pub mod Header
