pub mod TwoSheets
