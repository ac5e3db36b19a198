pub mod Searching
pub mod Inserting
pub mod Widening
pub mod Sorting
pub mod Appending
pub mod Gathering
pub mod Nexts
