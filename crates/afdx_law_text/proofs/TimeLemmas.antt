-- The times of what is recorded, and the lengths of its frames. Lists have the newest first.
use Rattle.std.proofs.Common.{◌≡◌, ℕ, suc, ◌≤◌, ◌<◌, Bool, true, false, List, [], ◌∷◌, ◌++◌, length, map, reverse, refl, sym, ap, subst, arith}
use Rattle.std.proofs.lemmas.Bool.{lt-ltb, ltb-true, le-leb}
use Rattle.std.specs.Prelude.{All, Option, Some, None, is_none, filter, nat_le, if◌then◌else◌}
use Rattle.std.specs.List.{AllByRecursion}
use Rattle.std.specs.Option.{ForSome}
use Rattle.afdx_police.specs.Arrival.{Arrival}
use Rattle.afdx_police.specs.Rule.{Rule}
use Rattle.afdx_police.specs.Shape.{fault_of}
use Rattle.afdx_police.specs.Verdicts.{accepted_arrivals, reason_after}
use Rattle.afdx_police.specs.declared.shape.Reason.{Reason}
use Rattle.afdx_police.proofs.ShapeLemmas.{faultless-is-sound}
use Rattle.afdx_law_bounds.specs.Outputs.{AreTimed}
use Rattle.afdx_law_promises.proofs.ListLemmas.{map-reverse}
use Rattle.afdx_conform.specs.Events.{GoUp, frame_times}
use Rattle.afdx_conform.specs.Headline.{GoByTime, AreTheirFrames}
use Rattle.afdx_conform.specs.LimitRanges.{most_bytes}
use Rattle.afdx_conform.specs.Streams.{Gone, Terms}
use Rattle.afdx_conform.proofs.EveryLemmas.{every-append, every-map, every-reverse, reverse-first}
use Rattle.afdx_command_conform.specs.Choices.{is_behind}
use Rattle.afdx_law_text.proofs.ListLemmas.{filter-keeps, Descend}

pub timed-go : (xs : List Arrival) → AreTimed xs → GoByTime xs
unfolding GoByTime
timed-go [] h = tt
timed-go (x ∷ past) h = (all-in past h.0, timed-go past h.1)
  where
    all-in : (ws : List Arrival) → All (λ w. w.time ≤ x.time) ws → AllByRecursion (λ w. w.time ≤ x.time) ws
    all-in [] k = tt
    all-in (w ∷ ws) k = (k 0 w (omega arith), all-in ws (λ i d below. k (suc i) d (omega (arith, below))))

pub go-descend : (xs : List Arrival) → GoByTime xs → Descend (λ (x : Arrival). x.time) xs
unfolding Descend GoByTime
go-descend [] h = tt
go-descend (x ∷ xs) h = (h.0, go-descend xs h.1)

pub own-go : (p : Arrival → Bool) (xs : List Arrival) → GoByTime xs → GoByTime (filter p xs)
unfolding GoByTime
own-go p [] h = tt
own-go p (x ∷ xs) h = by (p x) (filter-keeps (λ (w : Arrival). w.time ≤ x.time) p xs h.0) (own-go p xs h.1)
  where
    by : (b : Bool) → AllByRecursion (λ w. w.time ≤ x.time) (filter p xs) → GoByTime (filter p xs)
        → GoByTime (if b then x ∷ filter p xs else filter p xs)
    by true below rest = (below, rest)
    by false below rest = rest

go-up-push : (ns : List ℕ) (n : ℕ) → GoUp ns → AllByRecursion (λ m. m ≤ n) ns → GoUp (ns ++ (n ∷ []))
unfolding GoUp
go-up-push [] n h all = (tt, tt)
go-up-push (m ∷ ns) n h all =
    (every-append (λ k. m ≤ k) ns (n ∷ []) h.0 (all.0, tt), go-up-push ns n h.1 all.1)

go-up-back : {X : Type 0} (time : X → ℕ) (xs : List X) → Descend time xs → GoUp (reverse (map time xs))
unfolding GoUp Descend
go-up-back time [] h = tt
go-up-back {X} time (x ∷ xs) h =
    subst (λ (ns : List ℕ). GoUp ns) (sym (reverse-first (time x) (map time xs)))
    (go-up-push (reverse (map time xs)) (time x) (go-up-back time xs h.1)
    (every-reverse (λ m. m ≤ time x) (map time xs) (every-map (λ m. m ≤ time x) time xs h.0)))

pub go-up-list : (xs : List Arrival) → Descend (λ x. x.time) xs → GoUp (map (λ x. x.time) (reverse xs))
go-up-list xs h =
    subst (λ (ns : List ℕ). GoUp ns) (sym (map-reverse (λ (x : Arrival). x.time) xs)) (go-up-back (λ x. x.time) xs h)

pub frames-up : (ys : List Gone) → Descend (λ y. y.time) ys → GoUp (frame_times (reverse ys))
frames-up ys h = subst (λ (ns : List ℕ). GoUp ns) (sym (map-reverse (λ (y : Gone). y.time) ys))
    (go-up-back (λ (y : Gone). y.time) ys h)

-- the end that is said
pub later-ends : (o : Option ℕ) (m n : ℕ) → m ≤ n → is_behind m o ≡ true → is_behind n o ≡ true
later-ends None m n h e = absurd (cc e)
later-ends (Some end) m n h e = let past = ltb-true end m e in lt-ltb end n (omega (arith, past, h))

pub behind-end : (o : Option ℕ) (until : ℕ) → ForSome o (λ end. until ≡ end) → (n : ℕ) → is_behind n o ≡ true
    → until < n
behind-end None until at n e = absurd (cc e)
behind-end (Some end) until at n e =
    let past = ltb-true end n e in let same : until ≡ end = at end refl in omega (arith, past, same)

-- ---- one stream

faulted : (rule : Rule) (past : List Arrival) (x : Arrival) (why : Reason)
    → fault_of (Some rule) x.port x.bytes ≡ Some why
    → reason_after rule past x ≡ Some why
unfolding reason_after
faulted rule past x why g = rw g refl

-- what a rule accepts has the right shape
pub accepted-shape : (rule : Rule) (xs : List Arrival)
    → AllByRecursion (λ x. fault_of (Some rule) x.port x.bytes ≡ None) (accepted_arrivals rule xs)
unfolding accepted_arrivals
accepted-shape rule [] = tt
accepted-shape rule (x ∷ past) = by (reason_after rule past x) refl (fault_of (Some rule) x.port x.bytes) refl
    (accepted-shape rule past)
  where
    by : (o : Option Reason) → reason_after rule past x ≡ o → (f : Option Reason)
        → fault_of (Some rule) x.port x.bytes ≡ f
        → AllByRecursion (λ x. fault_of (Some rule) x.port x.bytes ≡ None) (accepted_arrivals rule past)
        → AllByRecursion (λ x. fault_of (Some rule) x.port x.bytes ≡ None)
        (if is_none o then x ∷ accepted_arrivals rule past else accepted_arrivals rule past)
    by (Some why) e f g rest = rest
    by None e None g rest = (g, rest)
    by None e (Some why) g rest = absurd (let reason = faulted rule past x why g in cc (reason, e))

-- so its frames are short
pub short-frames : (z : Terms) (xs : List Arrival) (ys : List Gone)
    → AllByRecursion (λ x. fault_of (Some z.rule) x.port x.bytes ≡ None) xs → AreTheirFrames z xs ys
    → AllByRecursion (λ y. nat_le (length y.bytes) most_bytes ≡ true) ys
unfolding AreTheirFrames
short-frames z [] [] all are = tt
short-frames z [] (y ∷ ys) all are = absurd are
short-frames z (x ∷ xs) [] all are = tt
short-frames z (x ∷ xs) (y ∷ ys) all are =
    let longest = ((faultless-is-sound z.rule x.port x.bytes).0 all.0).longest in
    let same : length x.bytes ≡ length y.bytes = ap (λ (b : List ℕ). length b) are.0.bytes in
    (le-leb (length y.bytes) most_bytes (omega (arith, longest, same)), short-frames z xs ys all.1 are.1)
