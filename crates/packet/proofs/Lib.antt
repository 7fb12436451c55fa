pub mod Dirt
pub mod FirstText
pub mod Items
pub mod Knot
pub mod Within
pub mod Bundles
pub mod Faults
