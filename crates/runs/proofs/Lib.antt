pub mod Checks
pub mod Exceptions
pub mod Words
pub mod Buffers
pub mod Table
pub mod Refusals
pub mod Plain
