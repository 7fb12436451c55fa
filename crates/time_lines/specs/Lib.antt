pub mod TimeLines
