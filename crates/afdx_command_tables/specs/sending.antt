-- What sending submissions is held to.
pub mod Events
pub mod Text
pub mod Sent
pub mod Told
pub mod Progress
pub mod Command
