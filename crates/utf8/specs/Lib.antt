pub mod CodeHighest
pub mod Lead
pub mod Utf8
pub mod Derive
pub mod Automaton
pub mod CodeStates
