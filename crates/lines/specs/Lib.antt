pub mod Refusals
pub mod Messages
pub mod Fields
pub mod Parts
pub mod Scanning
pub mod Reading
pub mod Texts
