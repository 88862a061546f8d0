-- A list has one list of events.
use Rattle.std.proofs.Common.{◌≡◌, ℕ, true, List, [], ◌∷◌, ◌++◌}
use Rattle.std.proofs.Common.{length, refl, sym, ap, ◌∙◌, subst, arith, inl, inr}
use Rattle.std.proofs.lemmas.Bool.{cases_lt}
use Rattle.afdx_network.specs.Order.{is_below}
use Rattle.afdx_network.proofs.OrderLemmas.{below_back}
use Rattle.afdx_cascade.specs.SwitchEvents.{Plan, SwitchEvent}
use Rattle.afdx_cascade.specs.Runs.{Line, arriving, IsDue, IsBeforeLine, IsFirstDue, IsNextLine, IsNextEvent, Runs, AreAll}
use Rattle.afdx_cascade.specs.Runs.{EventsBegin, EventsAreOne}

not-both : (ms ns : List ℕ) → is_below ms ns ≡ true → is_below ns ms ≡ true → ⊥
not-both ms ns lt gt = let back = below_back ms ns lt in cc

module _ (c : Plan) (so_far : List SwitchEvent) (lines : List Line) where
  first-one : (h g : SwitchEvent) → IsFirstDue c so_far lines h → IsFirstDue c so_far lines g
      → h ≡ g
  first-one h g a b = elim (a.first b.place g b.due) [
    | inl same ↦ sym same
    | inr lt ↦ elim (b.first a.place h a.due) [
      | inl same ↦ same
      | inr gt ↦ absurd (not-both a.place b.place lt gt)
    ]
  ]

  not-line : (h g : SwitchEvent) (rest : List Line) → IsFirstDue c so_far lines h
      → IsNextLine c so_far lines g rest → ⊥
  not-line h g rest a b =
      let before : is_below a.place (b.line.arrival.time ∷ 2 ∷ []) ≡ true =
      subst (IsBeforeLine a.place) b.are a.before_line in
      not-both a.place (b.line.arrival.time ∷ 2 ∷ []) before (b.first a.place h a.due)

  line-one : (h g : SwitchEvent) (rest other : List Line) → IsNextLine c so_far lines h rest
      → IsNextLine c so_far lines g other → (h ≡ g) × (rest ≡ other)
  line-one h g rest other a b =
      let are-a = a.are in
      let are-b = b.are in
      let same : a.line ∷ rest ≡ b.line ∷ other = sym are-a ∙ are-b in
      let line : a.line ≡ b.line = cc same in (
        a.is ∙ ap (λ (l : Line). arriving c so_far l.switch l.arrival) line ∙ sym b.is,
        cc same,
      )

  next-one : (h g : SwitchEvent) (rest other : List Line) → IsNextEvent c so_far lines h rest
      → IsNextEvent c so_far lines g other → (h ≡ g) × (rest ≡ other)
  next-one h g rest other (inl a) (inl b) = (first-one h g a.0 b.0, a.1 ∙ sym b.1)
  next-one h g rest other (inl a) (inr b) = absurd (not-line h g other a.0 b)
  next-one h g rest other (inr a) (inl b) = absurd (not-line g h rest b.0 a)
  next-one h g rest other (inr a) (inr b) = line-one h g rest other a b

same-runs : (c : Plan) (lines : List Line) (es ds : List SwitchEvent) (rest other : List Line)
    → Runs c lines es rest → Runs c lines ds other → length es ≡ length ds
    → (es ≡ ds) × (rest ≡ other)
same-runs c lines [] [] rest other a b same = (refl, a ∙ sym b)
same-runs c lines [] (d ∷ ds) rest other a b same = absurd (omega (arith, same))
same-runs c lines (e ∷ es) [] rest other a b same = absurd (omega (arith, same))
same-runs c lines (e ∷ es) (d ∷ ds) rest other a b same =
    let before = same-runs c lines es ds a.0 b.0 a.1 b.1 (omega (arith, same)) in
    let there : IsNextEvent c es a.0 d other =
    subst (λ zs. IsNextEvent c zs a.0 d other) (sym before.0)
    (subst (λ ls. IsNextEvent c ds ls d other) (sym before.1) b.2) in
    let now_same = next-one c es a.0 e d rest other a.2 there in
    (ap (λ x. x ∷ es) now_same.0 ∙ ap (λ zs. d ∷ zs) before.0, now_same.1)

-- the first of some events came of the list too
pub events-begin : EventsBegin
events-begin c lines [] others rest other a b le =
    ([], (same-runs c lines [] others rest other a b (omega (arith, le))).0)
events-begin c lines (e ∷ es) others rest other a b le =
    elim (cases_lt (length es) (length others)) [
      | inl is ↦ ([], (same-runs c lines (e ∷ es) others rest other a b (omega (arith, is, le))).0)
      | inr less ↦ (let begin = events-begin c lines es others a.0 other a.1 b less in
          (e ∷ begin.0, ap (λ zs. e ∷ zs) begin.1))
    ]

-- more events than all there are can't come
no-more : (c : Plan) (lines : List Line) (events others later : List SwitchEvent) (rest : List Line)
    → AreAll c lines events → Runs c lines others rest → others ≡ later ++ events → later ≡ []
no-more c lines events others [] rest all runs is = refl
no-more c lines events [] (h ∷ later) rest all runs is = absurd (cc is)
no-more c lines events (g ∷ others) (h ∷ later) rest all runs is =
    let here : others ≡ later ++ events = cc is in
    let none = no-more c lines events others later runs.0 all runs.1 here in
    let same : others ≡ events = here ∙ ap (λ zs. zs ++ events) none in
    let left = (same-runs c lines others events runs.0 [] runs.1 all.runs (ap length same)).1 in
    absurd (by runs.2 same left)
  where
    by : IsNextEvent c others runs.0 g rest → others ≡ events → runs.0 ≡ [] → ⊥
    by (inl first) same left = all.none first.0.place g
        (subst (λ zs. IsDue c zs first.0.place g) same first.0.due)
    by (inr line) same left = (let are = line.are in cc)

pub events-one : EventsAreOne
events-one c lines events others a b = elim (cases_lt (length events) (length others)) [
  | inl is ↦ (let begin = events-begin c lines others events [] [] b.runs a.runs
      (omega (arith, is)) in
      let none = no-more c lines events others begin.0 [] a b.runs begin.1 in
      sym (begin.1 ∙ ap (λ zs. zs ++ events) none))
  | inr is ↦ (let begin = events-begin c lines events others [] [] a.runs b.runs is in
      let none = no-more c lines others events begin.0 [] b a.runs begin.1 in
      begin.1 ∙ ap (λ zs. zs ++ others) none)
]
