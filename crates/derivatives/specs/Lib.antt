pub mod Rounds
pub mod Steps
