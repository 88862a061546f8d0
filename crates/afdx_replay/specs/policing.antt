-- What the policing of one link is held to.
pub mod Text
pub mod Told
pub mod Policed
pub mod Accounts
pub mod Input
pub mod Command
