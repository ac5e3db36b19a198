pub mod Clashes
pub mod Enumerating
pub mod Processes
pub mod Saying
