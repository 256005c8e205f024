pub mod ByKind
pub mod ByTable
