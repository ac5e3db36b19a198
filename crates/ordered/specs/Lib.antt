pub mod Insertion
pub mod Lists
pub mod Numbers
