pub mod OrderLemmas
pub mod EventLemmas
pub mod TurnLemmas
pub mod StandsLemmas
pub mod VerdictLemmas
pub mod FirstLemmas
pub mod OrderedLemmas
