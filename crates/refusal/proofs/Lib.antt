pub mod Only
pub mod FurtherOn
pub mod Examples
