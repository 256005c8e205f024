-- What the proofs of several functions use, and the laws that callers' proofs cite.
pub mod Shapes
pub mod Rows
pub mod SameDimensions
pub mod LeafSteps
pub mod Walks
pub mod Turns
pub mod Entries
