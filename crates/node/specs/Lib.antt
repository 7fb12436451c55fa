pub mod Tags
pub mod Forest
pub mod Records
pub mod Rules
