pub mod Nearest
pub mod Shares
pub mod Laws
pub mod Worked
pub mod Outcomes
