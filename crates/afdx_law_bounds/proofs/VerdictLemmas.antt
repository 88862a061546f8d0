-- What an accepted arrival looks like, and what it adds to its link's accepted ones.
use Rattle.std.proofs.Common.{◌≡◌, ℕ, ◌≤◌, ◌==◌, ◌&&◌, Bool, true, false, List, ◌∷◌, length}
use Rattle.std.proofs.Common.{Option, Some, None, inl, inr, refl, sym, subst, arith, ◌∙◌}
use Rattle.std.proofs.Common.{if◌then◌else◌}
use Rattle.std.specs.Prelude.{is_none}
use Rattle.std.specs.Option.{option_map_or, option_or}
use Rattle.std.proofs.lemmas.Bool.{cases_Bool, eqb-true}
use Rattle.afdx_frame.specs.Layout.{link_named_by}
use Rattle.afdx_frame.specs.declared.link.Policing.{Policing}
use Rattle.afdx_frame.specs.declared.link.Policing.TheVariants.{Byte, Frame}
use Rattle.afdx_frame.specs.declared.link.Side.{Side}
use Rattle.afdx_frame.specs.declared.link.VlId.{VlId}
use Rattle.afdx_frame.proofs.SideLemmas.{is_side-same}
use Rattle.afdx_police.specs.declared.shape.Reason.{Reason}
use Rattle.afdx_police.specs.declared.shape.Reason.TheVariants.{OverRate}
use Rattle.afdx_police.specs.Arrival.{Arrival, is_side, names, own}
use Rattle.afdx_police.specs.Charge.{charge_by}
use Rattle.afdx_police.specs.Rule.{Rule, regulation_of}
use Rattle.afdx_police.specs.Shape.{fault_of}
use Rattle.afdx_police.proofs.ShapeLemmas.{faultless-is-sound}
use Rattle.afdx_police.specs.Verdicts.{charged_by, drop_reason, accepted_own, reason_after}
use Rattle.afdx_police.specs.Window.{Charged, fits}
use Rattle.afdx_law_bounds.specs.Outputs.{Row, accepts}

record Clean (fault : Option Reason) (fit : Bool) : Type 0 where
  clean : fault ≡ None
  fits-in : fit ≡ true

clean-from : (fault : Option Reason) (fit : Bool) →
    is_none (option_or fault (if fit then None else Some OverRate)) ≡ true → Clean fault fit
clean-from None true h = record { clean = refl; fits-in = refl }
clean-from None false h = absurd (cc h)
clean-from (Some r) fit h = absurd (cc h)

pub record Looks (rule : Rule) (accepted : List Charged) (x : Arrival) : Type 0 where
  pub named : names rule.vl x.bytes ≡ true
  pub short : length x.bytes ≤ rule.lmax
  pub fit : fits (regulation_of rule) accepted (charged_by rule x) ≡ true

looks-from : (rule : Rule) (accepted : List Charged) (x : Arrival) → is_none (drop_reason rule accepted x) ≡ true →
    Looks rule accepted x
looks-from rule accepted x h =
    let c = clean-from (fault_of (Some rule) x.port x.bytes)
    (fits (regulation_of rule) accepted (charged_by rule x)) h in
    let sound = (faultless-is-sound rule x.port x.bytes).0 c.clean in
    record { named = sound.named; short = sound.within; fit = c.fits-in }

pub looks : (r : Row) (past : List Arrival) (x : Arrival) → accepts past x r ≡ true →
    Looks r.rule (accepted_own r.rule (own r.rule.vl x.side past)) x
unfolding reason_after
looks r past x h = looks-from r.rule (accepted_own r.rule (own r.rule.vl x.side past)) x h

pub charge-least : (p : Policing) (smax wire : ℕ) → wire ≤ smax →
    (wire ≤ charge_by p smax wire) × (charge_by p smax wire ≤ smax)
charge-least Byte smax wire h = (omega arith, h)
charge-least Frame smax wire h = (h, omega arith)

same-named : (o : Option VlId) (a b : ℕ) → option_map_or (λ vl. vl.0 == a) o false ≡ true →
    option_map_or (λ vl. vl.0 == b) o false ≡ true → a ≡ b
same-named None a b h k = absurd (cc h)
same-named (Some v) a b h k = sym (eqb-true v.0 a h) ∙ eqb-true v.0 b k

-- bytes name one link
pub one-name : (a b : ℕ) (bytes : List ℕ) → names a bytes ≡ true → names b bytes ≡ true → a ≡ b
unfolding names
one-name a b bytes h k = same-named (link_named_by bytes) a b h k

-- what is accepted of a link's own arrivals, the newest of which may be one that it accepts
own-more : (rule : Rule) (side : Side) (past : List Arrival) (x : Arrival) (accepted : Bool) → side ≡ x.side →
    is_none (reason_after rule (own rule.vl x.side past) x) ≡ accepted → names rule.vl x.bytes ≡ true →
    is_side side x.side ≡ true →
    accepted_own rule (own rule.vl side (x ∷ past))
    ≡ (if accepted then charged_by rule x ∷ accepted_own rule (own rule.vl side past) else
    accepted_own rule
    (own rule.vl side past))
unfolding reason_after accepted_own
own-more rule side past x accepted same is named on =
    let P : Side → Type 0 = λ s. is_none (drop_reason rule (accepted_own rule (own rule.vl s past)) x) ≡ accepted in
    let here = subst P (sym same) is in
    rw (on, named, here) refl

pub both-then : (a b : Bool) (xs ys : List Charged) → a ≡ true → b ≡ true → xs ≡ (if a && b then xs else ys)
both-then true true xs ys h k = refl
both-then true false xs ys h k = absurd (cc k)
both-then false b xs ys h k = absurd (cc h)

-- one more arrival is among the accepted ones of its link on its side, if it is accepted
pub accepted-more : (r : Row) (side : Side) (past : List Arrival) (x : Arrival) →
    accepted_own r.rule (own r.rule.vl side (x ∷ past))
    ≡ (if accepts past x r && is_side side x.side then charged_by r.rule x ∷ accepted_own r.rule
    (own r.rule.vl side past) else accepted_own r.rule (own r.rule.vl side past))
accepted-more r side past x =
    elim (cases_Bool (is_side side x.side)) [
      | inr other ↦ elim (cases_Bool (accepts past x r))
          [ inl is ↦ rw (other, is) refl | inr isnt ↦ rw (other, isnt) refl ]
      | inl on ↦ elim (cases_Bool (accepts past x r)) [
        | inl is ↦ (let l = looks r past x is in
            own-more r.rule side past x true (is_side-same side x.side on) is l.named on
            ∙ both-then (accepts past x r) (is_side side x.side)
            (charged_by r.rule x ∷ accepted_own r.rule (own r.rule.vl side past))
            (accepted_own r.rule (own r.rule.vl side past)) is on)
        | inr isnt ↦ elim (cases_Bool (names r.rule.vl x.bytes)) [
          | inl named ↦ (let more = own-more r.rule side past x false (is_side-same side x.side on)
              isnt named on in rw isnt more)
          | inr other ↦ rw (isnt, on, other) refl
        ]
      ]
    ]
