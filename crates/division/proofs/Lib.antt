pub mod Floors
pub mod Totals
pub mod Running
pub mod Units
pub mod Rules
pub mod Divides
pub mod Roundings
mod Sizes
mod Steps
