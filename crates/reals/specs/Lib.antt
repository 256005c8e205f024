pub mod Worth
pub mod Compare
pub mod Nearest
pub mod Nearness
pub mod Convert
