-- Demand 1, for the eighteen public calls.
--     Decoders, Cues, Encoders, Lookups, Clock    of each call
--     Every       of all of them: no second ending meets a contract, some ending does, each answer is listed for the call, and a refusal or
--                 Waiting changes no lent byte
--     Examples    endings that meet the contracts
pub mod Decoders
pub mod Cues
pub mod Encoders
pub mod Lookups
pub mod Clock
pub mod Every
pub mod Examples
