-- The queues of a regulator: their fronts, and whose turn it is.
use Rattle.std.proofs.Common.{◌≡◌, ℕ, ◌+◌, ◌<◌, ◌≤◌, max, min, List, [], ◌∷◌}
use Rattle.std.proofs.Common.{length, Option, Some, None, ◌⊎◌, inl, inr, refl, sym, ap, arith, ◌∙◌}
use Rattle.std.proofs.Common.{map, suc, zero, option_map, slice_index_or, slice_set, option_to_list}
use Rattle.std.proofs.Common.{MatchOption, ◌++◌, IsTrue, Result, Ok, Err, OnErr, drop, nat_le}
use Rattle.std.proofs.Common.{sum_by}
use Rattle.std.proofs.lemmas.List.Sums.{sum_by-cons}
use Rattle.std.proofs.lemmas.List.{map-set, length-map}
use Rattle.std.proofs.Math.Seq.{map-set_same}
use Rattle.std.proofs.lemmas.Option.{slice_get-map, slice_get-get_or, slice_get_within}
use Rattle.std.specs.List.{AllByRecursion}
use Rattle.std.proofs.lemmas.Bool.{cases_lt}
use Rattle.std.proofs.lemmas.Bool.Decides.{nat_tests}
use Rattle.afdx_port.proofs.TurnLemmas.{nat_lt-true, nat_lt-false}
use Rattle.afdx_send.specs.declared.regulator.Queued.{Queued}
use Rattle.afdx_send.specs.Releases.{turn}
use Rattle.afdx_send.specs.Regulator.{HasQueue, IsReady, Pops, Pushes, first_time, waiting_of, next_time_of}
use Rattle.afdx_send.specs.declared.regulator.Regulator.{Regulator}

-- the sub-VL one more than the place served + step has the turn step + 1
pub turn_of : (subs served step index : ℕ) → step < subs → served ≤ subs → (index ≡ served + step)
    ⊎ (index + subs ≡ served + step) → index < subs → turn subs served (index + 1) ≡ step + 1
turn_of subs served step index a b (inl e) c = rw (nat_lt-true served (index + 1) (omega arith)) (omega arith)
turn_of subs served step index a b (inr e) c = rw (nat_lt-false served (index + 1) (omega arith)) (omega arith)

pub turn_most : (subs served index : ℕ) → served ≤ subs → index < subs → turn subs served (index + 1) ≤ subs
turn_most subs served index a b = elim (cases_lt served (index + 1)) [
  | inl lt ↦ rw (nat_lt-true served (index + 1) lt) (omega arith)
  | inr ge ↦ rw (nat_lt-false served (index + 1) ge) (omega arith)
]

-- two places with one turn are one
pub turn_same : (subs served a b : ℕ) → served ≤ subs → a < subs → b < subs
    → turn subs served (a + 1) ≡ turn subs served (b + 1) → a ≡ b
turn_same subs served a b s la lb e =
    elim (cases_lt served (a + 1)) [
      | inl p ↦ elim (cases_lt served (b + 1)) [
        | inl q ↦ (let f = rw (nat_lt-true served (a + 1) p, nat_lt-true served (b + 1) q) at e in omega arith)
        | inr q ↦ (let f = rw (nat_lt-true served (a + 1) p, nat_lt-false served (b + 1) q) at e in omega arith)
      ]
      | inr p ↦ elim (cases_lt served (b + 1)) [
        | inl q ↦ (let f = rw (nat_lt-false served (a + 1) p, nat_lt-true served (b + 1) q) at e in omega arith)
        | inr q ↦ (let f = rw (nat_lt-false served (a + 1) p, nat_lt-false served (b + 1) q) at e in omega arith)
      ]
    ]

-- a queue is read at its place
pub queue_read : {Q : Type 0} (f : Q → List Queued) (qs : List Q) (i : ℕ) (q : Q) → i < length qs
    → q ≡ slice_index_or qs i q → HasQueue (map f qs) i (f q)
queue_read f qs i q below read = slice_get-map f qs i
    ∙ ap (λ z. option_map f z) (slice_get-get_or qs i q below) ∙ ap (λ z. Some (f z)) (sym read)

pub has_same : (queues : List (List Queued)) (i : ℕ) (a b : List Queued) → HasQueue queues i a
    → HasQueue queues i b → a ≡ b
has_same queues i a b h k = let e : Some a ≡ Some b = sym h ∙ k in cc

pub ready_yes : (queues : List (List Queued)) (time i : ℕ) (m : Queued) (ms : List Queued)
    → HasQueue queues i (m ∷ ms) → m.time ≤ time → IsReady queues time i
ready_yes queues time i m ms h le = (m, ms, record { has = h; come = le })

pub ready_front : (queues : List (List Queued)) (time i : ℕ) (m : Queued) (ms : List Queued)
    → HasQueue queues i (m ∷ ms) → IsReady queues time i → m.time ≤ time
ready_front queues time i m ms h r =
    let e = has_same queues i (m ∷ ms) (r.0 ∷ r.1) h r.2.has in
    let f : m ≡ r.0 = cc in
    let g : m.time ≡ r.0.time = ap (λ z. z.time) f in
    let le = r.2.come in omega arith

pub ready_none : (queues : List (List Queued)) (time i : ℕ) → HasQueue queues i [] → IsReady queues time i → ⊥
ready_none queues time i h r = let e = has_same queues i [] (r.0 ∷ r.1) h r.2.has in cc

pub popped : {Q : Type 0} (f : Q → List Queued) (qs : List Q) (i : ℕ) (q q' : Q) (r : Option Queued)
    → i < length qs → q ≡ slice_index_or qs i q → f q ≡ option_to_list r ++ f q' → (r ≡ None → f q ≡ []) →
    MatchOption r (HasQueue (map f qs) i []) (λ m. Pops (map f qs) i m (map f (slice_set qs i q')))
popped f qs i q q' None below read items none = queue_read f qs i q below read ∙ ap (λ z. Some z) (none refl)
popped f qs i q q' (Some m) below read items none =
    record {
      rest = f q';
      has = queue_read f qs i q below read ∙ ap (λ z. Some z) items;
      left = map-set f qs i q';
    }

pub empty_list : {Y : Type 0} (ys : List Y) (n : ℕ) → n ≡ length ys → n ≡ 0 → ys ≡ []
empty_list [] n e z = refl
empty_list (y ∷ ys) n e z = absurd (omega arith)

pub front_is : {Y : Type 0} (ys : List Y) (y : Y) → 0 < length ys → y ≡ slice_index_or ys 0 y → ys ≡ y ∷ drop 1 ys
front_is [] y lt e = absurd (omega arith)
front_is (z ∷ zs) y lt e = ap (λ w. w ∷ zs) (sym e)

pub leb_yes : (a b : ℕ) → IsTrue (nat_le a b) → a ≤ b
leb_yes a b h = grind (arith, nat_tests, h)

pub leb_true : (a b : ℕ) → a ≤ b → IsTrue (nat_le a b)
leb_true a b h = grind (arith, nat_tests)

-- a queue that is ready stands in the list
pub ready_place : {Q : Type 0} (f : Q → List Queued) (qs : List Q) (time i : ℕ)
    → IsReady (map f qs) time i → i < length qs
ready_place f qs time i r = omega (arith, slice_get_within (map f qs) i (r.0 ∷ r.1) r.2.has, length-map qs f)

-- the first time of some queues is that of a front, or the one from before
first_from : (soonest : Option ℕ) (queues : List (List Queued)) (t : ℕ) → first_time soonest queues
    ≡ Some t → (soonest ≡ Some t) ⊎ ((i : ℕ) × (m : Queued) × (ms : List Queued)
    × HasQueue queues i (m ∷ ms) × (m.time ≡ t))
first_from soonest [] t e = inl e
first_from soonest ([] ∷ qs) t e =
    elim (first_from soonest qs t e) [ inl a ↦ inl a | inr b ↦ inr (suc b.0, b.1, b.2, b.3, b.4) ]
first_from None ((m ∷ ms) ∷ qs) t e =
    elim (first_from (Some m.time) qs t e) [
      | inl a ↦ inr (0, m, ms, refl, (let f : m.time ≡ t = cc a in f))
      | inr b ↦ inr (suc b.0, b.1, b.2, b.3, b.4)
    ]
first_from (Some u) ((m ∷ ms) ∷ qs) t e = elim (first_from (Some (min u m.time)) qs t e) [
  | inl a ↦ (let f : min u m.time ≡ t = cc a in elim (cases_lt u m.time) [
    | inl lt ↦ inl (let g : u ≡ t = omega arith in ap (λ z. Some z) g)
    | inr ge ↦ inr (0, m, ms, refl, omega arith)
  ])
  | inr b ↦ inr (suc b.0, b.1, b.2, b.3, b.4)
]

-- and no front is sooner
first_below : (soonest : Option ℕ) (queues : List (List Queued)) (t u : ℕ)
    → first_time soonest queues ≡ Some t → soonest ≡ Some u → t ≤ u
first_below soonest [] t u e k = let f : u ≡ t = (let g = sym k ∙ e in cc) in omega arith
first_below soonest ([] ∷ qs) t u e k = first_below soonest qs t u e k
first_below None ((n ∷ ns) ∷ qs) t u e k = absurd (cc k)
first_below (Some v) ((n ∷ ns) ∷ qs) t u e k = let g : v ≡ u = cc k in let l =
    first_below (Some (min v n.time)) qs t (min v n.time) e refl in omega arith

first_least : (soonest : Option ℕ) (queues : List (List Queued)) (t : ℕ) → first_time soonest queues
    ≡ Some t → (i : ℕ) (m : Queued) (ms : List Queued) → HasQueue queues i (m ∷ ms) → t ≤ m.time
first_least soonest [] t e i m ms h = absurd (cc h)
first_least soonest ([] ∷ qs) t e zero m ms h = absurd (cc h)
first_least soonest ([] ∷ qs) t e (suc i) m ms h = first_least soonest qs t e i m ms h
first_least None ((n ∷ ns) ∷ qs) t e zero m ms h = let g : n ≡ m = cc h in let f : n.time ≡ m.time =
    ap (λ z. z.time) g in let l = first_below (Some n.time) qs t n.time e refl in omega arith
first_least None ((n ∷ ns) ∷ qs) t e (suc i) m ms h = first_least (Some n.time) qs t e i m ms h
first_least (Some u) ((n ∷ ns) ∷ qs) t e zero m ms h = let g : n ≡ m = cc h in let f : n.time
    ≡ m.time = ap (λ z. z.time) g in let l =
    first_below (Some (min u n.time)) qs t (min u n.time) e refl in omega arith
first_least (Some u) ((n ∷ ns) ∷ qs) t e (suc i) m ms h = first_least (Some (min u n.time)) qs t e i m ms h

pub record IsDue (p : Regulator) (t : ℕ) : Type 0 where
  pub after : p.earliest ≤ t
  pub index : ℕ
  pub ready : IsReady (waiting_of p) t index
  pub least : (i : ℕ) (m : Queued) (ms : List Queued) → HasQueue (waiting_of p) i (m ∷ ms) → t ≤ max m.time p.earliest

pub due : (p : Regulator) (t : ℕ) → next_time_of p ≡ Some t → IsDue p t
due p t e = by_first (first_time None (waiting_of p)) refl e
  where
    by_first : (o : Option ℕ) → first_time None (waiting_of p) ≡ o
        → option_map (λ u. max u p.earliest) o ≡ Some t → IsDue p t
    by_first None k e = absurd (cc e)
    by_first (Some u) k e =
        let at : max u p.earliest ≡ t = cc e in
        let r = first_least None (waiting_of p) u k in
        elim (first_from None (waiting_of p) u k) [
          | inl a ↦ absurd (cc a)
          | inr b ↦ record {
            after = omega arith;
            index = b.0;
            ready = (b.1, b.2, record { has = b.3; come = (let f = b.4 in omega arith) });
            least = λ i m ms h. (let le = r i m ms h in omega arith);
          }
        ]

pub due_ready : (p : Regulator) (t : ℕ) → next_time_of p ≡ Some t → (i : ℕ) × IsReady (waiting_of p) t i
due_ready p t e = let d = due p t e in (d.index, d.ready)

stays_some : (u : ℕ) (queues : List (List Queued)) → first_time (Some u) queues ≡ None → ⊥
stays_some u [] e = cc e
stays_some u ([] ∷ qs) e = stays_some u qs e
stays_some u ((n ∷ ns) ∷ qs) e = stays_some (min u n.time) qs e

-- where a queue has a front there is a next time
first_some : (soonest : Option ℕ) (queues : List (List Queued)) (i : ℕ) (m : Queued)
    (ms : List Queued) → HasQueue queues i (m ∷ ms) → first_time soonest queues ≡ None → ⊥
first_some soonest [] i m ms h e = cc h
first_some soonest ([] ∷ qs) zero m ms h e = cc h
first_some soonest ([] ∷ qs) (suc i) m ms h e = first_some soonest qs i m ms h e
first_some None ((n ∷ ns) ∷ qs) i m ms h e = stays_some n.time qs e
first_some (Some u) ((n ∷ ns) ∷ qs) i m ms h e = stays_some (min u n.time) qs e

pub not_none : (p : Regulator) (i : ℕ) (m : Queued) (ms : List Queued)
    → HasQueue (waiting_of p) i (m ∷ ms) → next_time_of p ≡ None → ⊥
not_none p i m ms h e = by_first (first_time None (waiting_of p)) refl e
  where
    by_first : (o : Option ℕ) → first_time None (waiting_of p) ≡ o → option_map (λ u. max u p.earliest) o ≡ None → ⊥
    by_first None k e = first_some None (waiting_of p) i m ms h k
    by_first (Some u) k e = cc e

pub joined : {Q : Type 0} (f : Q → List Queued) (qs : List Q) (i : ℕ) (q q' : Q) (m : Queued)
    → i < length qs → q ≡ slice_index_or qs i q → f q' ≡ f q ++ m ∷ []
    → Pushes (map f qs) i m (map f (slice_set qs i q'))
joined f qs i q q' m below read items =
    record {
      before = f q;
      has = queue_read f qs i q below read;
      after = map-set f qs i q'
          ∙ ap (λ z. slice_set (map f qs) i z) items;
    }

pub kept : {Q : Type 0} (f : Q → List Queued) (qs : List Q) (i : ℕ) (q q' : Q)
    → q ≡ slice_index_or qs i q → f q' ≡ f q → map f (slice_set qs i q') ≡ map f qs
kept f qs i q q' read items = map-set_same f qs i q' q (items ∙ ap (λ z. f z) read)

pub on_err : {A E : Type 0} (r : Result A E) (P : Type 0) → P → OnErr r P
on_err (Ok x) P p = search
on_err (Err e) P p = p

-- queues that all are empty
pub empty_queues : {Q : Type 0} (f : Q → List Queued) (qs : List Q)
    → AllByRecursion (λ q. f q ≡ []) qs → (i : ℕ) (ms : List Queued) → HasQueue (map f qs) i ms → ms ≡ []
empty_queues f [] all i ms h = absurd (cc h)
empty_queues f (q ∷ qs) all zero ms h = let e : f q ≡ ms = cc h in sym e ∙ all.0
empty_queues f (q ∷ qs) all (suc i) ms h = empty_queues f qs all.1 i ms h

pub later_than : (earliest : ℕ) (o : Option ℕ) (t : ℕ) → option_map (λ u. max u earliest) o ≡ Some t → earliest ≤ t
later_than earliest None t e = absurd (cc e)
later_than earliest (Some u) t e = let f : max u earliest ≡ t = cc e in omega arith

-- nothing waits in empty queues
pub empty_sum : {Q : Type 0} (f : Q → List Queued) (qs : List Q) → AllByRecursion (λ q. f q ≡ []) qs
    → sum_by length (map f qs) ≡ 0
empty_sum f qs all = sum_zero (map f qs) (λ i ms h. empty_queues f qs all i ms h)
  where
    sum_zero : (queues : List (List Queued))
        → ((i : ℕ) (ms : List Queued) → HasQueue queues i ms → ms ≡ []) → sum_by length queues ≡ 0
    sum_zero [] none = refl
    sum_zero (q ∷ qs) none = sum_by-cons length q qs
        ∙ (let rest = sum_zero qs (λ i ms h. none (suc i) ms h) in let e : length q ≡ 0 =
        ap length (none 0 q refl) in omega arith)

pub empty_first : {Q : Type 0} (f : Q → List Queued) (qs : List Q)
    → AllByRecursion (λ q. f q ≡ []) qs → first_time None (map f qs) ≡ None
empty_first f qs all = none_first (map f qs) (λ i ms h. empty_queues f qs all i ms h)
  where
    none_first : (queues : List (List Queued))
        → ((i : ℕ) (ms : List Queued) → HasQueue queues i ms → ms ≡ []) → first_time None queues ≡ None
    none_first [] none = refl
    none_first ([] ∷ qs) none = none_first qs (λ i ms h. none (suc i) ms h)
    none_first ((m ∷ ms) ∷ qs) none = absurd (let e : m ∷ ms ≡ [] = none 0 (m ∷ ms) refl in cc e)
