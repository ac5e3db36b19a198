pub mod Adding
pub mod Contents
pub mod Membership
mod Opening
mod Placing
