pub mod NoOther
pub mod StopMatches
pub mod WordSteps
