pub mod Noted
pub mod Judged
pub mod Steps
pub mod Read
