-- The laws that callers' proofs cite.
pub mod Free
pub mod Marks
