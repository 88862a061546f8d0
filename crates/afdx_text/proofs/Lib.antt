mod TextLemmas
mod EncodingLemmas
mod BlockLemmas
mod WordLemmas
pub mod OutputLemmas
pub mod TellingLemmas
pub mod WholeLineLemmas
