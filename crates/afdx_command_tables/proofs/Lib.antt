pub mod CheckLemmas
mod SolveLemmas
pub mod RefusalLemmas
pub mod BelowLemmas
pub mod TakingLemmas
pub mod SenderLemmas
pub mod SendLemmas
pub mod SendStartLemmas
