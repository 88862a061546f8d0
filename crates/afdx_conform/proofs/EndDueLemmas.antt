-- When the next event of a stream is due, once its recordings end.
use Rattle.std.proofs.Common.{◌≡◌, ℕ, zero, suc, ◌+◌, ◌-◌, ◌<◌, ◌≤◌, Bool, true, false, List, [], ◌∷◌, ◌⊎◌, inl, inr, map, take, drop, get_or, length, refl, sym, ap, ◌∙◌, subst, arith}
use Rattle.std.proofs.lemmas.Bool.{ltb-true, le-ltb}
use Rattle.std.proofs.lemmas.List.{drop-take, length-drop}
use Rattle.std.specs.Prelude.{if◌then◌else◌, nat_lt, Option, Some, None}
use Rattle.std.specs.List.{AllByRecursion}
use Rattle.std.specs.Global.{Vec}
use Rattle.afdx_police.specs.Arrival.{Arrival}
use Rattle.afdx_conform.specs.Growing.{IsAfter, IsDueLater, due_at, due_by, due_in}
use Rattle.afdx_conform.specs.Marks.{arrival_of}
use Rattle.afdx_conform.specs.States.{Event}
use Rattle.afdx_conform.specs.Streams.{Gone, Terms}
use Rattle.afdx_conform.specs.declared.arrived.Arrived.{Arrived}
use Rattle.afdx_conform.specs.declared.growth.Growth.{Growth}
use Rattle.afdx_conform.specs.declared.limits.LeftFrame.{LeftFrame}
use Rattle.afdx_conform.specs.declared.limits.Limits.{Limits}
use Rattle.afdx_conform.specs.declared.states.StreamState.{StreamState}
use Rattle.afdx_conform.proofs.EndingLemmas.{ended}
use Rattle.afdx_conform.proofs.EveryLemmas.{every-right, every-unmap}
use Rattle.afdx_conform.proofs.HistoryLemmas.{every-drop}

due-itself : (due : Option ℕ) → IsDueLater due due
due-itself None = refl
due-itself (Some moment) = omega arith

-- of the first of these frames
due-first : (limits : Limits) (cs : List Arrived) (fs : List LeftFrame) (n : ℕ)
    → IsDueLater (due_in limits cs fs) (due_in limits cs (take n fs))
due-first limits cs [] zero = due-itself (due_in limits cs [])
due-first limits cs [] (suc n) = due-itself (due_in limits cs [])
due-first limits [] (f ∷ fs) zero = tt
due-first limits (a ∷ cs) (f ∷ fs) zero = by (nat_lt (f.time + limits.reach) a.time) refl
  where
    by : (b : Bool) → nat_lt (f.time + limits.reach) a.time ≡ b
        → IsDueLater (if b then Some (due_at limits (f.time + limits.reach)) else Some (due_at limits a.time))
        (Some (due_at limits a.time))
    by true e = let lt = ltb-true (f.time + limits.reach) a.time e in omega (arith, lt)
    by false e = omega arith
due-first limits [] (f ∷ fs) (suc n) = due-itself (due_in limits [] (f ∷ fs))
due-first limits (a ∷ cs) (f ∷ fs) (suc n) = due-itself (due_in limits (a ∷ cs) (f ∷ fs))

due-same : (limits : Limits) (until : ℕ) (cs : List Arrived) (fs : List LeftFrame) (n : ℕ)
    → AllByRecursion (λ a. a.time ≤ until) cs
    → ((f : LeftFrame) (rest : List LeftFrame) → n ≡ 0 → fs ≡ f ∷ rest → until < f.time + limits.reach)
    → (due_in limits cs (take n fs) ≡ due_in limits cs fs) ⊎ (due_in limits cs (take n fs) ≡ None)
due-same limits until cs [] zero h c = inl refl
due-same limits until cs [] (suc n) h c = inl refl
due-same limits until [] (f ∷ fs) zero h c = inr refl
due-same limits until (a ∷ cs) (f ∷ fs) zero h c =
    let one = h.0 in
    let two = c f fs refl refl in
    inl (ap (λ (b : Bool). if b then Some (due_at limits (f.time + limits.reach)) else Some (due_at limits a.time))
    (sym (le-ltb (f.time + limits.reach) a.time (omega (arith, one, two)))))
due-same limits until [] (f ∷ fs) (suc n) h c = inl refl
due-same limits until (a ∷ cs) (f ∷ fs) (suc n) h c = inl refl

by-unsure : (u : Bool) (before after : Option ℕ) → IsDueLater before after
    → IsDueLater (if u then None else before) (if u then None else after)
by-unsure true before after h = refl
by-unsure false before after h = h

same-unsure : (u : Bool) (before after : Option ℕ) → (after ≡ before) ⊎ (after ≡ None)
    → ((if u then None else after) ≡ (if u then None else before)) ⊎ ((if u then None else after) ≡ None)
same-unsure true before after h = inl refl
same-unsure false before after h = h

drop-first : (fs : List LeftFrame) (n k : ℕ) → n ≤ k → drop n (take k fs) ≡ take (k - n) (drop n fs)
drop-first fs n k le =
    let same : n + (k - n) ≡ k = omega (arith, le) in
    ap (λ (m : ℕ). drop n (take m fs)) (sym same) ∙ drop-take n (k - n) fs

head-at : (fs : List LeftFrame) (n : ℕ) (f : LeftFrame) (rest : List LeftFrame) → drop n fs ≡ f ∷ rest → f ≡
    get_or fs n f
head-at [] zero f rest e = absurd (cc)
head-at [] (suc n) f rest e = absurd (cc)
head-at (g ∷ fs) zero f rest e = by e
  where
    by : g ∷ fs ≡ f ∷ rest → f ≡ g
    by k = cc
head-at (g ∷ fs) (suc n) f rest e = head-at fs n f rest e

module _ (old : Growth) (frames' : Vec LeftFrame) (held' : Vec StreamState) (kept count : ℕ)
    (items : frames'.items ≡ take kept old.frames.items) (low : old.closed ≤ kept) where
  abbrev New : Growth
  New = ended old frames' held' count

  abbrev Coming : List Arrived
  Coming = drop (length old.judging.marks.items) old.arrivals.items

  left-is : drop old.closed frames'.items ≡ take (kept - old.closed) (drop old.closed old.frames.items)
  left-is = ap (λ (l : List LeftFrame). drop old.closed l) items ∙ drop-first old.frames.items old.closed kept low

  pub due-end : IsDueLater (due_by old) (due_by New)
  unfolding due_by
  due-end = subst (λ (l : List LeftFrame). IsDueLater
      (if old.judging.is_unsure then None else due_in old.bounds.limits Coming (drop old.closed old.frames.items))
      (if old.judging.is_unsure then None else due_in old.bounds.limits Coming l)) (sym left-is)
      (by-unsure old.judging.is_unsure (due_in old.bounds.limits Coming (drop old.closed old.frames.items)) _
      (due-first old.bounds.limits Coming (drop old.closed old.frames.items) (kept - old.closed)))

  pub due-then : (z : Terms) (xs : List Arrival) (ys : List Gone) (over : List Event) (until : ℕ)
      → old.judging.is_unsure ≡ false → AllByRecursion (λ x. x.time ≤ until) xs → IsAfter z xs ys 0 over old
      → ((g : LeftFrame) → kept < length old.frames.items → g ≡ get_or old.frames.items kept g
      → until < g.time + old.bounds.limits.reach)
      → (due_by New ≡ due_by old) ⊎ (due_by New ≡ None)
  unfolding due_by
  due-then z xs ys over until sure all f cuts =
      subst (λ (l : List LeftFrame). ((if old.judging.is_unsure then None else due_in old.bounds.limits Coming l)
      ≡ (if old.judging.is_unsure then None else due_in old.bounds.limits Coming (drop old.closed old.frames.items)))
      ⊎ ((if old.judging.is_unsure then None else due_in old.bounds.limits Coming l) ≡ None)) (sym left-is)
      (same-unsure old.judging.is_unsure (due_in old.bounds.limits Coming (drop old.closed old.frames.items)) _
      (due-same old.bounds.limits until Coming (drop old.closed old.frames.items) (kept - old.closed) come-before off))
    where
      come-before : AllByRecursion (λ a. a.time ≤ until) Coming
      come-before =
          let h = f.sure sure in
          every-drop (λ a. a.time ≤ until) (length old.judging.marks.items) old.arrivals.items
          (every-unmap (λ x. x.time ≤ until) arrival_of old.arrivals.items
          (every-right (λ x. x.time ≤ until) (map (λ m. m.arrival) h.gone) (map arrival_of old.arrivals.items)
          (subst (λ (l : List Arrival). AllByRecursion (λ x. x.time ≤ until) l) h.kept.came all)))

      off : (g : LeftFrame) (rest : List LeftFrame) → kept - old.closed ≡ 0 → drop old.closed old.frames.items ≡
          g ∷ rest
          → until < g.time + old.bounds.limits.reach
      off g rest none e =
          let here : old.closed ≡ kept = omega (arith, none, low) in
          let size = length-drop old.closed old.frames.items in
          let some = ap (λ (l : List LeftFrame). length l) e in
          cuts g (omega (arith, here, size, some))
          (subst (λ (n : ℕ). g ≡ get_or old.frames.items n g) here (head-at old.frames.items old.closed g rest e))
