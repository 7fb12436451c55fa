pub mod Dates
pub mod DayNumbers
