pub mod SiteLemmas
pub mod TextLemmas
pub mod ToldLemmas
pub mod EarlyLemmas
pub mod ReplayLemmas
pub mod PromisedLemmas
pub mod LossLemmas
pub mod AdmittedRunLemmas
pub mod DefinedLemmas
mod AccountLemmas
mod ReplaysLemmas
mod CascadeEventLemmas
mod CascadeArrivalLemmas
mod CascadeOverLemmas
mod CascadeRunLemmas
mod CascadePartLemmas
mod CascadePromisedLemmas
mod CascadeStepLemmas
mod CascadeWholeLemmas
mod CascadeArriveLemmas
mod PlacedLemmas
mod OneSwitchLemmas
