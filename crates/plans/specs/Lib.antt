pub mod PlanWords
pub mod LeafSteps
pub mod PlanEntries
pub mod Spans
