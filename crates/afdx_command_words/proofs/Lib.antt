pub mod CutLemmas
pub mod PlaceLemmas
pub mod OnceLemmas
pub mod PlacedLemmas
pub mod PlaceLawLemmas
pub mod PuttingLemmas
pub mod SayingLemmas
pub mod WordsLemmas
