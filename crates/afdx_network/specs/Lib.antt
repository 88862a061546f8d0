pub mod Events
pub mod Order
pub mod First
pub mod Network
pub mod Laws
