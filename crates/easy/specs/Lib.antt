pub mod Easy
pub mod Words
