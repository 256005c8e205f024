pub mod Layout
pub mod Setters
pub mod FieldLaws
