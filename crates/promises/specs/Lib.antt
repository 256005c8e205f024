pub mod Runs
pub mod Demand1
pub mod Demand2
pub mod WayBack
pub mod WorkingTable
pub mod Demand3
pub mod SourceWords
