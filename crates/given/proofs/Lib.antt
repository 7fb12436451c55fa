-- What the decoders give, proved.
--     Encodable   what is decoded can be read without testing it again, and encoded
--     Starts      where each item began
pub mod Encodable
pub mod Starts
