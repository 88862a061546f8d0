use Rattle.std.proofs.Common.{◌≡◌, sym, subst}
use Rattle.std.specs.Prelude.{Some, slice_get}
use Rattle.afdx_cascade.specs.Found.{AllStand}
use Rattle.afdx_cascade.proofs.cascade.Cascade.early.Goals as goal

pub early_at-requires-clause-clock : goal.early_at-requires-clause-clock
early_at-requires-clause-clock c n at =
    c.requires.clock.networks c.args.switch.0 n
    (subst (λ zs. slice_get zs c.args.switch.0 ≡ Some n) c.deref.ensures.value at)

pub returns : goal.returns
returns c p so_far tag st fault =
    c.early_at.ensures p so_far tag
    (subst (λ zs. AllStand p zs so_far) (sym c.deref.ensures.value) st.keeps.stands.all) fault
