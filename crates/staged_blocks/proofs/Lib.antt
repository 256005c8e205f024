pub mod After
pub mod Rounded
