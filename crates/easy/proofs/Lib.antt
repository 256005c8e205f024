pub mod Easy
pub mod Words
pub mod Lent
