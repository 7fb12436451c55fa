pub mod Order
pub mod Documents
pub mod Tickets
pub mod Folds
pub mod Boundary
