pub mod Sheet
pub mod FirstFault
