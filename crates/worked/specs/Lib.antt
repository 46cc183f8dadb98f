pub mod Given
pub mod Month
