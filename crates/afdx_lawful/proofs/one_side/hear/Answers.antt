use Rattle.std.proofs.Common.{◌∷◌, ap, refl, subst, sym, ◌∙◌}
use Rattle.afdx_lawful.specs.Alone.{is_empty}
use Rattle.afdx_lawful.specs.Flaws.{whole_of}
use Rattle.afdx_lawful.specs.Judged.{found_with}
use Rattle.afdx_lawful.specs.Sources.{on_side}
use Rattle.afdx_lawful.specs.Partners.{other}
use Rattle.afdx_lawful.specs.LastCame.{AreLast}
use Rattle.afdx_lawful.specs.OneSide.{WaitsToo}
use Rattle.afdx_lawful.specs.Rings.{waiting_as}
use Rattle.afdx_lawful.specs.Tracks.{IsTrack, told_alone}
use Rattle.afdx_lawful.proofs.OneSideLemmas.{came_number, came_whole, found_is, no_copy, stand_paired}
use Rattle.afdx_lawful.proofs.OneSideLemmas.{has_to_wait, on_err, ring_partner, stand_single, stand_waiting}
use Rattle.afdx_lawful.proofs.one_side.hear.Goals as goal

pub returns-then-not-terms-clause-found : goal.returns-then-not-terms-clause-found
returns-then-not-terms-clause-found c s side past gone x are is flaw next stand =
    let whole = came_whole side c.args.whole x is in
    let number = came_number side c.args.whole x is in
    found_is s side past x is.on whole _ _
    (ap (λ line. told_alone line c.come-alone.result) (sym is.line)
    ∙ c.come-alone.ensures.found s _ x are.limits is.time number flaw stand.here.track)
    (no_copy s side past x is.on whole (are.paired ∙ c.if-not-terms.true))

pub returns-then-not-terms-clause-stand : goal.returns-then-not-terms-clause-stand
returns-then-not-terms-clause-stand c s side past gone x are is flaw next up stand =
    let whole = came_whole side c.args.whole x is in
    let number = came_number side c.args.whole x is in
    stand_single s side past x is.on whole (are.paired ∙ c.if-not-terms.true) gone _ _ _ stand next up
    (subst (λ t. IsTrack s (x ∷ on_side side (whole_of past)) t) (sym c.pass.ensures.track)
    (c.come-alone.ensures.stands s _ x are.limits is.time number stand.here.track))
    (c.pass.ensures.last _ x is.time number stand.here.last) c.pass.ensures.waiting

pub returns-in-Some-clause-found : goal.returns-in-Some-clause-found
returns-in-Some-clause-found c s side past gone x are is flaw next stand =
    let whole = came_whole side c.args.whole x is in
    let number = came_number side c.args.whole x is in
    found_is s side past x is.on whole _ _
    (ap (λ line. told_alone line c.come-alone.result) (sym is.line)
    ∙ c.come-alone.ensures.found s _ x are.limits is.time number flaw stand.here.track)
    (c.compare-copied.ensures s side (other side) x are is
    ∙ ap (found_with s x) (c.in-Some.ensures.partner s (other side) x number next.there)
    ∙ ap (found_with s x) (ring_partner s (other side) past x _ _ stand.there (next.gone (other side))))

pub returns-in-Some-clause-stand : goal.returns-in-Some-clause-stand
returns-in-Some-clause-stand c s side past gone x are is flaw next up stand =
    let whole = came_whole side c.args.whole x is in
    let number = came_number side c.args.whole x is in
    stand_paired s side past x is.on whole (are.paired ∙ c.if-not-terms.false) gone _ _ _ _ stand next up
    (subst (λ t. IsTrack s (x ∷ on_side side (whole_of past)) t) (sym c.pass-in-Some.ensures.track)
    (c.come-alone.ensures.stands s _ x are.limits is.time number stand.here.track))
    (c.pass-in-Some.ensures.last _ x is.time number stand.here.last) refl refl
    (c.in-Some.ensures.rest s (other side) x number next.there)
    (waiting_as (other side) c.in-Some.partner)
    (sym (c.in-Some.ensures.partner s (other side) x number next.there)) c.pass-in-Some.ensures.waiting

pub returns-in_err-wait-in-None-clause-waits : goal.returns-in_err-wait-in-None-clause-waits
returns-in_err-wait-in-None-clause-waits c s side past gone x are is next stand =
    let number = came_number side c.args.whole x is in
    on_err c.from_residual.result _ (
    has_to_wait s side past x is.on (came_whole side c.args.whole x is) (are.paired ∙ c.if-not-terms.false)
    (sym (ring_partner s (other side) past x _ _ stand.there (next.gone (other side)))
    ∙ sym (c.in-None.ensures.partner s (other side) x number next.there))
    )

pub returns-in_ok-wait-in-None-clause-found : goal.returns-in_ok-wait-in-None-clause-found
returns-in_ok-wait-in-None-clause-found c s side past gone x are is flaw next stand =
    let whole = came_whole side c.args.whole x is in
    let number = came_number side c.args.whole x is in
    found_is s side past x is.on whole _ _
    (ap (λ line. told_alone line c.come-alone.result) (sym is.line)
    ∙ c.come-alone.ensures.found s _ x are.limits is.time number flaw stand.here.track)
    (ap (found_with s x) (c.in-None.ensures.partner s (other side) x number next.there)
    ∙ ap (found_with s x) (ring_partner s (other side) past x _ _ stand.there (next.gone (other side))))

pub returns-in_ok-wait-in-None-clause-stand : goal.returns-in_ok-wait-in-None-clause-stand
returns-in_ok-wait-in-None-clause-stand c s side past gone x are is flaw next up stand =
    let whole = came_whole side c.args.whole x is in
    let number = came_number side c.args.whole x is in
    stand_waiting s side past x is.on whole (are.paired ∙ c.if-not-terms.false) gone _ _ _ _ stand next up
    (subst (λ t. IsTrack s (x ∷ on_side side (whole_of past)) t) (sym c.pass-in-None.ensures.track)
    (c.come-alone.ensures.stands s _ x are.limits is.time number stand.here.track))
    (c.pass-in-None.ensures.last _ x is.time number
    (subst (λ t. AreLast (on_side side (whole_of past)) t) (sym c.wait.ensures.last) stand.here.last)) refl refl
    (c.in-None.ensures.rest s (other side) x number next.there)
    c.is_quiet.result
    (c.is_quiet.ensures x.line
    ∙ ap is_empty (c.come-alone.ensures.found s _ x are.limits is.time number flaw stand.here.track))
    (sym (c.in-None.ensures.partner s (other side) x number next.there))
    (subst (λ ws. WaitsToo side c.args.own.now.waiting x c.is_quiet.result ws)
    (sym c.pass-in-None.ensures.waiting) (c.in_ok-wait-in-None.ensures.waits side x is))
