pub mod SplitLemmas
pub mod FieldLemmas
pub mod FormLemmas
pub mod LineLemmas
pub mod ReaderLemmas
pub mod TakingLemmas
pub mod WholeLemmas
pub mod SubmissionLemmas
mod DigitLemmas
mod SpaceLemmas
pub mod FrameLemmas
pub mod SitedLemmas
mod PeekLemmas
