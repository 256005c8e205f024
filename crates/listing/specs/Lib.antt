pub mod Output
pub mod Note
