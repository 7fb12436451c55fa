pub mod Without
