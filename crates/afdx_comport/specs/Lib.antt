pub mod Messages
pub mod Held
pub mod Ports
pub mod Laws
pub mod Words
pub mod Calls
