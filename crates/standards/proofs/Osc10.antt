-- Demand 2: what OSC 1.0 defines is proved from it.
--     Trees       trees that stand for one packet are the same, and their numbers fit
--     Accepted    every packet that OSC 1.0 allows is accepted as what it is, bare and in its frame
--     Seen        what is decoded is seen by `look` and `text_of` as what OSC 1.0 says
--     Written     what `encode` writes is a packet that OSC 1.0 allows, and what `encode_tcp` writes for a message is its frame
--     Examples    packets that meet the hypotheses
pub mod Trees
pub mod Accepted
pub mod Seen
pub mod Written
pub mod Examples
