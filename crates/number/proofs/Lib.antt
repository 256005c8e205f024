pub mod Signs
pub mod Range
pub mod Fields
pub mod Widen
pub mod Pads
pub mod RoundTrip
pub mod Bits
