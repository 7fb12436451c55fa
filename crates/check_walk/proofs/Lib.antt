-- A walk that checks, told at the C boundary.
pub mod Chain
pub mod Examples
