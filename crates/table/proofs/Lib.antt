-- What the proofs of several functions use, and the laws that callers' proofs cite.
pub mod Coded
pub mod Same
pub mod Lookups
pub mod Stores
pub mod Frames
pub mod Keeps
pub mod Made
pub mod Cleared
