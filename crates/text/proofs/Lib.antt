pub mod Until
pub mod Places
pub mod Scans
pub mod Decimals
pub mod Written
