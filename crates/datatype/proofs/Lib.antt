pub mod Tests
pub mod Ways
pub mod Matches
pub mod HasPath
pub mod SymbolSets
pub mod Handling
pub mod Stopping
