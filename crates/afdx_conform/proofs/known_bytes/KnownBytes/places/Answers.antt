use Rattle.std.proofs.Common.{List, ℕ, sym, ◌∙◌, subst}
use Rattle.afdx_conform.specs.KnownBytes.{StandAt, has_bytes}
use Rattle.afdx_conform.proofs.PlacesLemmas.{kept-stand}
use Rattle.afdx_conform.proofs.known_bytes.KnownBytes.places.Goals as goal

pub in_time-requires-clause-order : goal.in_time-requires-clause-order
in_time-requires-clause-order c = c.requires.known.order c.if-self.true

pub in_time-requires-clause-places : goal.in_time-requires-clause-places
in_time-requires-clause-places c =
    subst (λ (l : List ℕ). StandAt (has_bytes c.args.frame.now.bytes) 0 c.args.arrivals.now l)
    (sym (c.at-alike.ensures ∙ c.requires.known.kept c.if-self.true c.args.frame.now.bytes))
    (kept-stand c.args.frame.now.bytes 0 c.args.arrivals.now)
