pub mod AmongOthersLemmas
pub mod ChangedLemmas
pub mod DistinctLemmas
mod AskedLemmas
pub mod EntryLemmas
pub mod GatheredLemmas
pub mod GrownLemmas
pub mod AnyLemmas
pub mod LawfulLinkLemmas
pub mod LookUpLemmas
pub mod InSwitchLemmas
pub mod NumberLemmas
pub mod OverLemmas
pub mod BareLemmas
pub mod ChangedSwitchesLemmas
pub mod TakenLemmas
