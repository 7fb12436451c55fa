pub mod Words
pub mod Options
pub mod Asked
