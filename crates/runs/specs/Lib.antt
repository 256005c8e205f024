pub mod Run
pub mod Parts
pub mod FirstException
pub mod Refusals
