pub mod Footprint
pub mod Parting
pub mod Pairing
pub mod Laws
