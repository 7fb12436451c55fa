pub mod Decimal
pub mod Forms
pub mod Refusals
pub mod Replies
pub mod Shown
pub mod Indexes
pub mod Troubles
pub mod CodePut
