-- Demand 3: more bytes never take back a packet that a single-packet call gave. Beside it: they change no refusal of reading but 2 and 17
-- to 21.
--     Arguments   bytes appended to a text or to a message's data
--     Packets     bytes appended to a packet
--     Wholes      bytes appended to the input of a single-packet call
--     Tables      a tree that continues another, on the table
--     Dirt        the dirty padding of a packet, with bytes appended
--     Frames      that of frames of edition 2
--     MoreBytes   the theorem of packets, for each of the two calls
--     Stay        the theorem of packets in edition 2, for one frame and for a list
--     Faults      the theorem of refusals, for each of the two calls
--     Examples    calls that meet the hypotheses, and lists for which the second theorem is false
pub mod Arguments
pub mod Packets
pub mod Wholes
pub mod Tables
pub mod Dirt
pub mod Frames
pub mod MoreBytes
pub mod Stay
pub mod Faults
pub mod Examples
