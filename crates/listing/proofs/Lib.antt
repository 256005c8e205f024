-- What the proofs of several functions use, and the laws over the definitions.
mod Lengths
mod Writes
mod Outputs
mod Whole
pub mod FaultyLine
