pub mod Valid
pub mod Edits
pub mod Fields
pub mod Keeps
pub mod FieldLaws
