pub mod Lists
pub mod Fronts
pub mod Jobs
pub mod RecordAt
pub mod CopyTurns
pub mod PlaceTurns
pub mod ScanTurns
