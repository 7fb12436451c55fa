pub mod Said
pub mod Examples
