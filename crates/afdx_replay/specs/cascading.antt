-- What the replays of a list by a configuration of several switches a side are held to.
pub mod Text
pub mod Early
pub mod Told
pub mod Ran
pub mod Sited
pub mod Items
pub mod Input
pub mod OneSwitch
