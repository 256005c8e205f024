pub mod StopMatch
