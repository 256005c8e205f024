pub mod Container
pub mod Index
