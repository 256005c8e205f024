pub mod Line
pub mod Column
pub mod Read
