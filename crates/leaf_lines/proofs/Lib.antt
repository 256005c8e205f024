-- What the proofs of several functions use, and the laws over the definitions.
mod Lines
pub mod EachOnce
