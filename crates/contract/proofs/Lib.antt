-- Demand 1 of a contract.
--     OneEnding   of a contract that one ending alone meets, and of one that writes nothing
--     Examples    contracts that meet it, and contracts that do not
pub mod OneEnding
pub mod Examples
