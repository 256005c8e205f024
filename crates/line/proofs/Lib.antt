pub mod Columns
pub mod Answers
pub mod Readings
pub mod Arrays
pub mod FirstWords
