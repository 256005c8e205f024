pub mod Place
pub mod Number
pub mod Parts
