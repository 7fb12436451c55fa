pub mod Answers
pub mod NoLeads
pub mod Fours
pub mod Examples
pub mod Only
