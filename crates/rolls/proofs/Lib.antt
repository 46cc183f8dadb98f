pub mod Numerals
pub mod Back
pub mod Recorded
pub mod Writing
pub mod Adding
pub mod Counting
pub mod Bounds
pub mod Fitting
