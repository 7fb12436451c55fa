pub mod Leaf
pub mod Exact
pub mod Rows
pub mod Arguments
pub mod Packets
pub mod Only
pub mod Examples
