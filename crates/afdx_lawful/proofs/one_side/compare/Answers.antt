use Rattle.std.proofs.Common.{◌≤◌, ◌∷◌, [], arith, ap, refl, sym, ◌∙◌, length}
use Rattle.afdx_frame.specs.Parts.{bytes_of}
use Rattle.afdx_lawful.specs.Rings.{waiting_as}
use Rattle.afdx_lawful.specs.declared.finding.SenderFinding.TheVariants.{Apart}
use Rattle.afdx_lawful.proofs.CopyLemmas.{at_most}
use Rattle.afdx_lawful.proofs.OneSideLemmas.{with_same}
use Rattle.afdx_lawful.proofs.one_side.compare.Goals as goal

pub of-apart-requires : goal.of-apart-requires
of-apart-requires c =
    let most : length (bytes_of c.args.whole.frame) ≤ 1518 = at_most (bytes_of c.args.whole.frame) c.args.whole.whole in
    omega (arith, c.length.ensures, most)

pub returns-in-Some : goal.returns-in-Some
returns-in-Some c s side by x are is =
    let y = waiting_as by c.args.partner.now in
    with_same s x y _ (sym (c.is_copy.ensures x y.frame is.bytes (sym c.frame.ensures)) ∙ c.if-not-is_copy.false)
    (ap (λ line. Apart line c.in-Some.by ∷ []) (sym is.line)
    ∙ c.in-Some.ensures s x y.frame are.limits is.time refl
    (sym (c.of-apart.ensures.apart s x are.limits are.apart (ap length is.bytes ∙ sym c.length.ensures))))

pub returns-in-None : goal.returns-in-None
returns-in-None c s side by x are is =
    let y = waiting_as by c.args.partner.now in
    with_same s x y _ (sym (c.is_copy.ensures x y.frame is.bytes (sym c.frame.ensures)) ∙ c.if-not-is_copy.false)
    (c.in-None.ensures s x y.frame are.limits is.time refl
    (sym (c.of-apart.ensures.apart s x are.limits are.apart (ap length is.bytes ∙ sym c.length.ensures))))
