mod SameBytes
mod Staged
