use Rattle.std.proofs.Common.{◌≡◌, true, nat_lt, ◌-◌, Some, None, if◌then◌else◌, sym, ap, ◌∙◌, arith}
use Rattle.std.specs.Int.{div_ceil}
use Rattle.std.proofs.lemmas.Bool.{lt-ltb}
use Rattle.afdx_admit.proofs.RateLemmas.{low-bound}
use Rattle.afdx_admit.proofs.sums.Sums.low_bound.Goals as goal

pub returns-then-self : goal.returns-then-self
returns-then-self c = λ o s.
    let r = c.args.self.now in
    let below : nat_lt r.high_rate r.line ≡ true = lt-ltb r.high_rate r.line (omega arith) in
    ap (λ n. Some n) c.div_ceil.ensures
    ∙ sym (ap (λ b. if b then Some (div_ceil c.low_wait.result (r.line - r.high_rate)) else None) below)
    ∙ low-bound o r s c.low_wait.result (c.low_wait.ensures o s)
