-- How OSC 1.0's packets are read and written, by document 01's rules.
--     Placed      parts of an input that stand at a position
--     Tags        the type tags of OSC 1.0 and the one table of tags that reader and writer go by
--     Parts       what is spelled, read: texts, blobs and the data of one argument
--     Arguments   what is spelled, read: arguments
--     Packets     what is spelled, read: packets
--     Clean       packets that are spelled have no dirty padding
--     Depth       a packet is as deep as its tree
--     Strict      the packets of OSC 1.0 itself among those that are allowed, and the trees that have only what OSC 1.0 has
--     Spelled     the bytes of a tree spell the packet that the tree is
pub mod Placed
pub mod Tags
pub mod Parts
pub mod Arguments
pub mod Packets
pub mod Clean
pub mod Depth
pub mod Strict
pub mod Spelled
