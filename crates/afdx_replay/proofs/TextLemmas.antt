-- The text and the counts of one arrival more; what is known of a device that was lent.
use Rattle.std.proofs.Common.{◌≡◌, ◌+◌, suc, List, [], ◌∷◌, ◌++◌, refl, ap, sym, ◌∙◌, Option}
use Rattle.std.proofs.Common.{Bool, true, false, arith, cond, subst}
use Rattle.afdx_police.specs.declared.shape.Reason.{Reason}
use Rattle.afdx_police.specs.Arrival.{Arrival}
use Rattle.afdx_police.specs.Rule.{Rule}
use Rattle.afdx_police.specs.Verdicts.{verdict_in}
use Rattle.afdx_replay.specs.policing.Text.{text_of, count_judged, side_text, verdict_line}

-- what holds of it where it was lent holds of it once it is back
pub once-back : {X : Type 0} (lent : X) (P : X → Type 0) {back : X} → P lent → lent ≡ back → P back
once-back lent P h e = subst P e h

pub text_of-none : (rule : Rule) → text_of rule [] ≡ []
unfolding text_of
text_of-none rule = refl

pub text_of-more : (rule : Rule) (x : Arrival) (past : List Arrival) (reason : Option Reason)
    → reason ≡ verdict_in rule past x → text_of rule (x ∷ past) ≡ text_of rule past
    ++ verdict_line x.tag (side_text x.side) reason
unfolding text_of
text_of-more rule x past reason e =
    ap (λ (r : Option Reason). text_of rule past ++ verdict_line x.tag (side_text x.side) r) (sym e)

-- one more arrival counts, where its verdict is such a one
pub judged-more : (test : Option Reason → Bool) (rule : Rule) (x : Arrival) (past : List Arrival)
    (verdict : Option Reason) → verdict ≡ verdict_in rule past x → test verdict ≡ true
    → count_judged test rule (x ∷ past) ≡ count_judged test rule past + 1
unfolding count_judged
judged-more test rule x past verdict e is =
    ap (λ (b : Bool). cond b (suc (count_judged test rule past)) (count_judged test rule past))
    (ap test (sym e) ∙ is) ∙ omega arith

pub judged-same : (test : Option Reason → Bool) (rule : Rule) (x : Arrival) (past : List Arrival)
    (verdict : Option Reason) → verdict ≡ verdict_in rule past x → test verdict ≡ false
    → count_judged test rule (x ∷ past) ≡ count_judged test rule past
unfolding count_judged
judged-same test rule x past verdict e is =
    ap (λ (b : Bool). cond b (suc (count_judged test rule past)) (count_judged test rule past))
    (ap test (sym e) ∙ is)

pub judged-none : (test : Option Reason → Bool) (rule : Rule) → count_judged test rule [] ≡ 0
unfolding count_judged
judged-none test rule = refl
