pub mod Bounds
pub mod Derived
pub mod Variants
