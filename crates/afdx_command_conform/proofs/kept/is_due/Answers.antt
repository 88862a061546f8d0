use Rattle.std.proofs.Common.{◌≤◌, length, true≢false, sym, subst}
use Rattle.afdx_command_conform.proofs.KeyLemmas.{not-beyond}
use Rattle.afdx_command_conform.proofs.kept.is_due.Goals as goal

pub returns-then-place-slots-clause-due : goal.returns-then-place-slots-clause-due
returns-then-place-slots-clause-due c = (
  (λ no. absurd (true≢false (sym no))),
  (λ is. absurd (not-beyond c.args.slots.now c.args.entry.now.key c.args.entry.now.moment
      (subst (λ n. length c.args.slots.now ≤ n) c.place-place.ensures c.if-place-slots.true) is)),
)
