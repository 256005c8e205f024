pub mod Names
pub mod LeafSteps
pub mod Entries
pub mod OneEntry
pub mod Spans
pub mod EnumWords
pub mod RealWords
pub mod EasyLeaves
