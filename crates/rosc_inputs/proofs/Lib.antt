pub mod FrameExtents
pub mod Counting
pub mod ListTotals
pub mod Totals
