use Rattle.afdx_conform.proofs.GapLemmas.{settled-none}
use Rattle.afdx_conform.proofs.known_bytes.KnownBytes.forget.Goals as goal

pub returns-then-not-self-clause-settled : goal.returns-then-not-self-clause-settled
returns-then-not-self-clause-settled c xs ms = settled-none _ xs ms c.truncate.ensures.items
