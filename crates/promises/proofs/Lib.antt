pub mod Exercises
pub mod LostBack
pub mod Stops
pub mod Reals
pub mod WithoutSymbol
pub mod Promises
pub mod SourceWords
pub mod Demand1
