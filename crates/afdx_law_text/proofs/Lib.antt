pub mod SentLineLemmas
mod SaidLemmas
mod PortLineLemmas
mod SendLineLemmas
mod TextListLemmas
mod TakenLemmas
mod EmittedLemmas
mod EndToEndLemmas
mod SentArrivalLemmas
mod MergedLemmas
mod OneRunLemmas
mod SitedLineLemmas
mod SitedPortLemmas
mod SeveralLemmas
pub mod ListLemmas
pub mod RuleLemmas
pub mod AskedLemmas
pub mod LeavingLemmas
pub mod PromisedLemmas
pub mod FrameLemmas
pub mod TimeLemmas
pub mod NumberLemmas
pub mod UndamagedLemmas
pub mod StreamLemmas
pub mod ConformLemmas
pub mod JoinedLemmas
pub mod SomeLemmas
pub mod AnsweredLemmas
