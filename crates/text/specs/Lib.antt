pub mod Text
pub mod Field
pub mod Place
pub mod Written
