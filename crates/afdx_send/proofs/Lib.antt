mod RegulatorLemmas
mod ReleaseLemmas
mod AgendaLemmas
mod NodeLemmas
mod LineLemmas
mod OwnLemmas
mod StandLemmas
mod FullLemmas
mod KeptLemmas
pub mod NextLemmas
mod EmitLemmas
mod AddLemmas
mod SubmitLemmas
pub mod NewLemmas
pub mod LawLemmas
pub mod MessageLemmas
pub mod StreamLemmas
mod CallLemmas
mod NumberLemmas
mod BuildableLemmas
mod DoneLemmas
mod IdleLemmas
mod OrderLemmas
mod CompleteLemmas
pub mod OneLemmas
