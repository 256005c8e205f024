pub mod RecordSize
