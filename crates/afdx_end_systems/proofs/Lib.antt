pub mod LinkFrameLemmas
mod PassLemmas
mod FoundLemmas
mod NewestLemmas
mod EndLemmas
mod SystemsLemmas
mod PortsLemmas
mod LawLemmas
mod Examples
pub mod ReceptionLemmas
