use Rattle.std.proofs.Common.{ap, refl, sym, ◌∙◌, ◌-◌, ℕ}
use Rattle.afdx_lawful.specs.Flaws.{whole_of}
use Rattle.afdx_lawful.specs.Partners.{other}
use Rattle.afdx_lawful.specs.Rings.{waiting_as}
use Rattle.afdx_lawful.specs.Sources.{on_side}
use Rattle.afdx_lawful.proofs.CutLemmas.{before_is, cut_by, or_false, or_true, others_up}
use Rattle.afdx_lawful.proofs.RingLemmas.{number_kept}
use Rattle.afdx_lawful.proofs.unpaired.is_cut.Goals as goal

-- what both parts say together
pub returns-then-is_behind : goal.returns-then-is_behind
returns-then-is_behind c s side xs are last up known =
    let w = c.args.waits.now in
    let y = waiting_as side w in
    let reach = c.reach_of-reach.ensures.reach s side are in
    or_true c.is_unsaid-is_behind.result c.is_unsaid-is_before.result c.if-is_behind.true
    ∙ cut_by s xs y up c.saturating_sub-moment.result w.number
    (c.saturating_sub-moment.ensures ∙ ap (λ (n : ℕ). w.time - n) are.limits.hold) (number_kept w side)
    c.may_be_behind-may_be_later.result c.may_be_before-may_be_sooner.result _ _
    (c.may_be_behind-may_be_later.ensures s y refl (sym reach) (c.reach_of-reach.ensures.near s are) known)
    (before_is s _ _ y.frame are.start (c.may_be_before-may_be_sooner.ensures s y.frame refl (sym reach)))
    (c.is_unsaid-is_behind.ensures (on_side (other side) (whole_of xs)) _ last (others_up s xs y up))
    (c.is_unsaid-is_before.ensures (on_side (other side) (whole_of xs)) _ last (others_up s xs y up))

pub returns-else-is_behind : goal.returns-else-is_behind
returns-else-is_behind c s side xs are last up known =
    let w = c.args.waits.now in
    let y = waiting_as side w in
    let reach = c.reach_of-reach.ensures.reach s side are in
    or_false c.is_unsaid-is_behind.result c.is_unsaid-is_before.result c.if-is_behind.false
    ∙ cut_by s xs y up c.saturating_sub-moment.result w.number
    (c.saturating_sub-moment.ensures ∙ ap (λ (n : ℕ). w.time - n) are.limits.hold) (number_kept w side)
    c.may_be_behind-may_be_later.result c.may_be_before-may_be_sooner.result _ _
    (c.may_be_behind-may_be_later.ensures s y refl (sym reach) (c.reach_of-reach.ensures.near s are) known)
    (before_is s _ _ y.frame are.start (c.may_be_before-may_be_sooner.ensures s y.frame refl (sym reach)))
    (c.is_unsaid-is_behind.ensures (on_side (other side) (whole_of xs)) _ last (others_up s xs y up))
    (c.is_unsaid-is_before.ensures (on_side (other side) (whole_of xs)) _ last (others_up s xs y up))
