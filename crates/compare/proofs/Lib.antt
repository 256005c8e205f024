mod Halves
mod Whole
