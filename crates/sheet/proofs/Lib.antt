pub mod ReadWellFormed
pub mod FirstFault
