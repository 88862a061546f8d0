-- What the code keeps of a stream once the closing of a frame is over at which nothing is found.
use Rattle.std.proofs.Common.{◌≡◌, ℕ, ◌+◌, ◌≤◌, Bool, true, false, List, [], ◌∷◌, map, min, refl, sym, ap, ◌∙◌, subst, arith}
use Rattle.std.specs.Prelude.{Some}
use Rattle.afdx_police.specs.Arrival.{Arrival}
use Rattle.afdx_conform.specs.Findings.{Judged, closed_to, frames_in}
use Rattle.afdx_conform.specs.Forgetting.{with_gone}
use Rattle.afdx_conform.specs.Growing.{IsAfter, IsQuiet, most_found}
use Rattle.afdx_conform.specs.HeldStates.{AreClosed}
use Rattle.afdx_conform.specs.Histories.{coming, judged_by, next_of, unclosed}
use Rattle.afdx_conform.specs.Judging.{AreFound, StandsFor}
use Rattle.afdx_conform.specs.Leeway.{reach}
use Rattle.afdx_conform.specs.Limits.{gone_of}
use Rattle.afdx_conform.specs.States.{Event, Closing}
use Rattle.afdx_conform.specs.Streams.{Gone, Terms}
use Rattle.afdx_conform.specs.declared.growth.Growth.{Growth}
use Rattle.afdx_conform.specs.declared.limits.LeftFrame.{LeftFrame}
use Rattle.afdx_conform.specs.declared.states.StreamState.{StreamState}
use Rattle.std.specs.List.{AllByRecursion}
use Rattle.afdx_conform.proofs.ClosingLemmas.{close-all}
use Rattle.afdx_conform.proofs.GrowthCloses.{Close, after-close, closed-next}

-- nothing but what is closed changes
abbrev pub Closed : Growth → ℕ → Growth
Closed old to = record old { closed = old.closed + 1; closing = to }

same-growth : (old : Growth) (to n : ℕ) (z : Terms) (xs : List Arrival) (ys : List Gone) (cut : ℕ) (over : List Event)
    (f : LeftFrame)
    → old.is_started ≡ true → old.found ≡ min n most_found → Close z xs ys cut over f old old.judging [] to
    ≡ Closed old to
unfolding frames_in
same-growth old to n z xs ys cut over f started found =
    ap (λ (b : Bool). record old {
      closed = old.closed + 1;
      closing = to;
      is_started = b;
      found = min (old.found + frames_in []) most_found;
    }) (sym started)
    ∙ ap (λ (k : ℕ). record old { closed = old.closed + 1; closing = to; found = k })
    (let e : min (old.found + 0) most_found ≡ old.found = omega (arith, found) in e)

nothing-found : (time : ℕ) (j k : Judged) → k ≡ j → AreFound time [] j k
unfolding frames_in
nothing-found time j k e = record {
  findings = ap (λ (v : Judged). v.findings) e;
  frames = (let same = ap (λ (v : Judged). v.frames) e in omega (arith, same));
}

module _ (z : Terms) (xs : List Arrival) (ys : List Gone) (cut : ℕ) (over : List Event) (f : LeftFrame) (old : Growth)
    (to moment : ℕ)
    (g : IsAfter z xs ys cut over old) (sure : old.judging.is_unsure ≡ false) (started : old.is_started ≡ true)
    (next : next_of z (coming xs over) (unclosed ys over) ≡ Some (Closing f.time))
    (closed : AreClosed f.time to (map gone_of old.frames.items))
    (all : AllByRecursion (λ (h : StreamState). to ≤ h.passed) old.judging.held.items)
    (early : f.time + reach z.by ≤ moment) where
  pub after-quiet : IsAfter z xs ys cut (Closing f.time ∷ over) (Closed old to)
      × IsQuiet z xs ys over moment (Some f.time)
  after-quiet =
      let h = g.sure sure in
      let c = h.continues started in
      let same : closed_to z f.time c.j ≡ c.j =
      close-all z f.time to (map gone_of old.frames.items) old.judging.held.items c.j closed c.stands.states
      (sym c.stands.unsure ∙ sure) all in
      let after = after-close z xs ys cut over f old old.judging [] to h.gone h.past h.kept c sure
      (subst (λ (j : Judged). StandsFor old.bounds.rates old.frames.items old.arrivals.items j old.judging) (sym same)
      c.stands)
      (nothing-found (f.time + reach z.by) c.j (closed_to z f.time c.j) same) refl g next in (
        subst (λ (s : Growth). IsAfter z xs ys cut (Closing f.time ∷ over) s)
            (same-growth old to (judged_by z xs ys over).frames z xs ys cut over f started h.kept.found) after.0,
        record {
          early = early;
          same = closed-next z xs ys cut over f old old.judging [] to h.gone h.past h.kept c
              ∙ ap (λ (j : Judged). with_gone h.gone 0 j) same ∙ c.same;
        },
      )
