-- What passed keeps every window.
use Rattle.std.proofs.Common.{◌≡◌, ℕ, ◌+◌, ◌*◌, ◌-◌, ◌≤◌, Bool, true, false, List, [], ◌∷◌, ap, subst, sym, arith}
use Rattle.std.proofs.lemmas.Bool.{leb-true}
use Rattle.afdx_frame.specs.Regulation.{bag}
use Rattle.afdx_police.specs.Arrival.{Arrival}
use Rattle.afdx_conform.specs.Explanations.{Answered, answered, accepted_in, arrivals_in, last_time, link, charge, levels_after, AreAllowed}
use Rattle.afdx_conform.specs.Headline.{GoByTime}
use Rattle.afdx_conform.specs.Hiding.{KeepsEach, KeepAll, WhatPassedKeepsWindows}
use Rattle.afdx_conform.specs.Leeway.{account_slip}
use Rattle.afdx_conform.specs.Levels.{parts, fastest, full, cost, fast_slip}
use Rattle.afdx_conform.specs.Streams.{Terms}

-- ---- over numbers

split : (a x g : ℕ) → a * (x + g) ≡ a * x + a * g
split a x g = grind arith

more : (p b n c : ℕ) → p * (b * (n + c)) ≡ p * (b * n) + p * (b * c)
more p b n c = grind arith

later-number : (a lo n t at w : ℕ) → n ≤ lo + a * (t - w) → w ≤ t → t ≤ at → n ≤ (lo - a * (at - t)) + a * (at - w)
later-number a lo n t at w h before on =
    let whole = split a (t - w) (at - t) in
    let same : (t - w) + (at - t) ≡ at - w = omega (arith, before, on) in
    let joined : a * ((t - w) + (at - t)) ≡ a * (at - w) = ap (λ n. a * n) same in
    omega (arith, h, whole, joined)

window-number : (a lo n t w slip f : ℕ) → n ≤ lo + a * (t - w) → lo ≤ f + a * slip → n ≤ a * (t - w + slip) + f
window-number a lo n t w slip f h room = let whole = split a (t - w) slip in omega (arith, h, room, whole)

module _ (z : Terms) where
  abbrev rate : ℕ
  rate = fastest (link z) z.by

  abbrev load : ℕ → ℕ
  load taken = parts * (bag (link z) * taken)

  -- the level is at least what each window that begins with one of these takes
  abbrev IsBelow : ℕ → ℕ → ℕ → List Arrival → Type 0
  IsBelow lo time taken [] = Unit {0}
  IsBelow lo time taken (x ∷ before) = (load (taken + charge z x) ≤ lo + rate * (time - x.time))
      × (x.time ≤ time) × IsBelow lo time (taken + charge z x) before

  below-later : (lo time at taken : ℕ) (xs : List Arrival) → time ≤ at → IsBelow lo time taken xs
      → IsBelow (lo - rate * (at - time)) at taken xs
  below-later lo time at taken [] on h = tt
  below-later lo time at taken (x ∷ xs) on h = (
    later-number rate lo (load (taken + charge z x)) time at x.time h.0 h.1 on,
    (let b = h.1 in omega (arith, b, on)),
    below-later lo time at (taken + charge z x) xs on h.2,
  )

  below-more : (lo hi time taken : ℕ) (xs : List Arrival) → lo ≤ hi → IsBelow lo time taken xs
      → IsBelow hi time taken xs
  below-more lo hi time taken [] on h = tt
  below-more lo hi time taken (x ∷ xs) on h =
      (let b = h.0 in omega (arith, b, on), h.1, below-more lo hi time (taken + charge z x) xs on h.2)

  below-charged : (lo time taken c n : ℕ) (xs : List Arrival) → n ≡ taken + c → IsBelow lo time taken xs
      → IsBelow (lo + load c) time n xs
  below-charged lo time taken c n [] e h = tt
  below-charged lo time taken c n (x ∷ xs) e h =
      let sum : n + charge z x ≡ (taken + charge z x) + c = omega (arith, e) in
      let whole = more parts (bag (link z)) (taken + charge z x) c in
      let loads : load (n + charge z x) ≡ load ((taken + charge z x) + c) = ap (λ m. load m) sum in
      let b = h.0 in (
        omega (arith, b, whole, loads),
        h.1,
        below-charged lo time (taken + charge z x) c (n + charge z x) xs sum h.2,
      )

  below-keeps : (lo taken : ℕ) (last : Arrival) (xs : List Arrival) → lo ≤ full (link z) z.by + fast_slip (link z) z.by
      → IsBelow lo last.time taken xs → KeepsEach z last taken xs
  unfolding KeepsEach
  below-keeps lo taken last [] room h = tt
  below-keeps lo taken last (x ∷ xs) room h = (
    window-number rate lo (load (taken + charge z x)) last.time x.time (account_slip z.by) (full (link z) z.by) h.0
        room,
    below-keeps lo (taken + charge z x) last xs room h.2,
  )

  -- what is known after some answers
  record Kept (answers : List Answered) : Type 0 where
    pub below : IsBelow (levels_after z answers).lo (last_time z.by (arrivals_in answers)) 0 (accepted_in answers)
    pub all : KeepAll z (accepted_in answers)

  -- the level when an arrival comes
  abbrev low : List Answered → Arrival → ℕ
  low answers x = (levels_after z answers).lo - rate * (x.time - last_time z.by (arrivals_in answers))

  step-kept : (b : Bool) (x : Arrival) (answers : List Answered) → AreAllowed z (answered x b ∷ answers)
      → IsBelow (low answers x) x.time 0 (accepted_in answers) → KeepAll z (accepted_in answers)
      → Kept (answered x b ∷ answers)
  unfolding levels_after accepted_in arrivals_in AreAllowed KeepAll
  step-kept true x answers allowed now all =
      let room : low answers x + cost (link z) z.by (charge z x) ≤ full (link z) z.by + fast_slip (link z) z.by
      = leb-true (low answers x + cost (link z) z.by (charge z x)) (full (link z) z.by + fast_slip (link z) z.by)
      allowed.0 in
      let tail = below-charged (low answers x) x.time 0 (charge z x) (0 + charge z x) (accepted_in answers)
      (omega arith) now in
      let head : load (0 + charge z x) ≡ load (charge z x) = ap (λ m. load m) (omega arith) in
      let below : IsBelow (low answers x + load (charge z x)) x.time 0 (x ∷ accepted_in answers) =
      (omega (arith, head), omega arith, tail) in
      record {
        below = below;
        all = (below-keeps (low answers x + load (charge z x)) 0 x (x ∷ accepted_in answers) room below, all);
      }
  step-kept false x answers allowed now all = record {
    below = below-more (low answers x) _ x.time 0 (accepted_in answers) (omega arith) now;
    all = all;
  }

  kept-all : (answers : List Answered) → AreAllowed z answers → GoByTime (arrivals_in answers) → Kept answers
  unfolding levels_after accepted_in arrivals_in AreAllowed KeepAll GoByTime
  kept-all [] allowed order = record { below = tt; all = tt }
  kept-all (x ∷ []) allowed order = step-kept x.accepted x.arrival [] allowed tt tt
  kept-all (x ∷ w ∷ answers) allowed order =
      let k = kept-all (w ∷ answers) allowed.1 order.1 in
      step-kept x.accepted x.arrival (w ∷ answers) allowed
      (below-later (levels_after z (w ∷ answers)).lo w.arrival.time x.arrival.time 0 (accepted_in (w ∷ answers))
      order.0.0 k.below) k.all

pub what_passed : WhatPassedKeepsWindows
what_passed z xs frames order e =
    subst (λ (l : List Arrival). KeepAll z l) e.accepted
    (kept-all z e.answers e.are_allowed (subst (λ (l : List Arrival). GoByTime l) (sym e.are_answered) order)).all
