pub mod Classed
pub mod Lengths
pub mod Rows
pub mod Arguments
pub mod Packets
pub mod Turns
