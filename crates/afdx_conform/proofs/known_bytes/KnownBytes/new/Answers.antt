use Rattle.afdx_conform.proofs.GapLemmas.{settled-none}
use Rattle.afdx_conform.proofs.known_bytes.KnownBytes.new.Goals as goal

pub returns-clause-settled : goal.returns-clause-settled
returns-clause-settled c xs ms = settled-none _ xs ms c.new-2.ensures.items
