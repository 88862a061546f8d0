pub mod cascading
pub mod Early
pub mod Inputs
pub mod Placed
pub mod Listing
pub mod policing
pub mod replaying
