-- What the replays of a list by a configuration is held to.
pub mod Text
pub mod Told
pub mod Early
pub mod Replayed
pub mod Command
pub mod Promises
pub mod PromisedRun
pub mod DefinedRun
pub mod Input
