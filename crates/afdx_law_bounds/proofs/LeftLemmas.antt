-- What has left a port when no further turn is given.
use Rattle.std.proofs.Common.{◌≡◌, ℕ, ◌+◌, ◌<◌, ◌≤◌, ◌==◌, Bool, true, false, List, [], ◌∷◌, ◌++◌}
use Rattle.std.proofs.Common.{Some, inl, inr, refl, sym, ap, subst, arith, ◌∙◌, suc}
use Rattle.std.proofs.Common.{if◌then◌else◌}
use Rattle.std.specs.List.{slice_get}
use Rattle.std.proofs.lemmas.Option.{slice_get_within}
use Rattle.std.proofs.lemmas.Bool.{cases_Bool, eqb-true}
use Rattle.afdx_port.specs.Due.{IsAfter}
use Rattle.afdx_port.specs.History.{due_at}
use Rattle.afdx_port.specs.Schedule.{Entry, Turn, has_turn, lasting, IsNext, AreTurns}
use Rattle.afdx_port.specs.ScheduleOf.{schedule_of}
use Rattle.afdx_port.proofs.TurnLemmas.{schedule_begins}
use Rattle.afdx_port.proofs.ScheduleLemmas.{schedule_of_is}
use Rattle.afdx_police.specs.Laws.{EachAccountMoves}
use Rattle.afdx_law_bounds.specs.Admitted.{EachHasLeft}
use Rattle.afdx_law_bounds.specs.Policed.{MayWait}
use Rattle.afdx_law_bounds.proofs.BoundLemmas.{turn_at}
use Rattle.afdx_law_bounds.proofs.AdmittedLemmas.{product-positive, turn-in-time, turn-not-old}

-- a turn that is given after `until` isn't over before it
over : (until end : ℕ) (too_old : Bool) → until < end + (if too_old then 1 else 0) → until ≤ end
over until end true h = omega (arith, h)
over until end false h = omega (arith, h)

slot-after : (until end : ℕ) (too_old : Bool) → too_old ≡ false → until < end + (if too_old then 1 else 0) →
    until < end
slot-after until end true kept h = absurd (cc kept)
slot-after until end false kept h = omega (arith, h)

-- a turn with its moment at or after `until` is given after it
given : (byte_ns until moment end bytes : ℕ) (too_old : Bool) → 0 < byte_ns →
    end ≡ moment + lasting byte_ns too_old bytes → until ≤ moment → until < end + (if too_old then 1 else 0)
given byte_ns until moment end bytes true some lasts h = omega (arith, lasts, h)
given byte_ns until moment end bytes false some lasts h = let long =
    product-positive (bytes + 20) byte_ns (omega arith) some in omega (arith, lasts, h, long)

module _ {X : Type 0} where
  -- the turn of a place that is among the later ones
  record Later (later turns : List (Turn X)) (place until : ℕ) : Type 0 where
    i : ℕ
    s : Turn X
    at : slice_get (later ++ turns) i ≡ Some s
    own : s.place ≡ place
    after : IsAfter until (due_at s)

  -- where the next turn is given after `until`, so are those after it
  later-given : (byte_ns : ℕ) (entries : List (Entry X)) (turns later : List (Turn X)) (until place : ℕ) →
      0 < byte_ns → AreTurns byte_ns entries (later ++ turns) →
      ((s : Turn X) → IsNext byte_ns entries turns s → IsAfter until (due_at s)) → has_turn turns place ≡ false →
      has_turn (later ++ turns) place ≡ true → Later later turns place until
  later-given byte_ns entries turns [] until place some are next out has = absurd (cc (out, has))
  later-given byte_ns entries turns (s ∷ later) until place some are next out has =
      elim (cases_Bool (s.place == place)) [
        | inl same ↦ record { i = 0; s = s; at = refl; own = eqb-true s.place place same; after = first later s are }
        | inr other ↦ (let r = later-given byte_ns entries turns later until place some are.1 next
            out (rw other at has) in
            record { i = suc r.i; s = r.s; at = r.at; own = r.own; after = r.after })
      ]
    where
      first : (rest : List (Turn X)) (x : Turn X) → AreTurns byte_ns entries (x ∷ rest ++ turns) →
          IsAfter until (due_at x)
      first [] x h = next x h.0
      first (y ∷ ys) x h =
          let before = over until y.end y.too_old (first ys y h.1) in
          let after : y.end ≤ x.moment = h.0.after in
          given byte_ns until x.moment x.end x.entry.bytes x.too_old some h.0.lasts (omega (arith, before, after))

  pub each-left : EachAccountMoves → EachHasLeft X
  each-left moves byte_ns buffer flows vl_of charge_of entries turns f until place e regulated are
      flow next stands named waits over =
      elim (cases_Bool (has_turn turns place)) [
        | inl has ↦ has
        | inr out ↦ absurd (
            let all = schedule_of_is byte_ns entries regulated.in_order in
            let r = schedule_begins byte_ns entries (schedule_of byte_ns entries) turns all are in
            let P : List (Turn X) → Type 0 = λ zs. AreTurns byte_ns entries zs in
            let longer : AreTurns byte_ns entries (r.0 ++ turns) = subst P r.1 all.each_next in
            let has : has_turn (r.0 ++ turns) place ≡ true =
            subst (λ (zs : List (Turn X)). has_turn zs place ≡ true) r.1 (all.all_have_turns place
            (slice_get_within entries place e stands)) in
            let l = later-given byte_ns entries turns r.0 until place regulated.line longer next out has in
            let own = turn_at byte_ns entries (r.0 ++ turns) l.i l.s longer l.at in
            let at-place : slice_get entries place ≡ Some l.s.entry =
            subst (λ (n : ℕ). slice_get entries n ≡ Some l.s.entry) l.own own.next.own.stands in
            let same : e ≡ l.s.entry = cc (stands, at-place) in
            let names : vl_of l.s.entry.item ≡ f.vl = sym (ap (λ z. vl_of z.item) same) ∙ named in
            let time : e.time ≡ l.s.entry.time = ap (λ z. z.time) same in
            let Q : Entry X → Type 0 = λ z. MayWait f.latency z in
            let end = turn-in-time moves byte_ns buffer flows vl_of charge_of entries (r.0 ++ turns)
            f l.i l.s regulated longer flow l.at names in
            let kept = turn-not-old moves byte_ns buffer flows vl_of charge_of entries
            (r.0 ++ turns) f l.i l.s regulated longer flow l.at names
            (subst Q same waits) in
            let late = slot-after until l.s.end l.s.too_old kept l.after in
            omega (arith, end, late, time, over))
      ]
