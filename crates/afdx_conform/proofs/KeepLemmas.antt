-- What is kept of the states that the code holds.
use Rattle.std.proofs.Common.{◌≡◌, ℕ, zero, suc, ◌+◌, ◌≤◌, ◌<◌, Bool, true, false, ◌&&◌, List, [], ◌∷◌, ◌++◌, map, drop, take, length, refl, sym, ap, ◌∙◌, subst, ◌⊎◌, inl, inr, get_or, arith}
use Rattle.std.proofs.lemmas.List.{map-append, take_more}
use Rattle.std.proofs.lemmas.Bool.{eqb-true, leb-true, leb-false, and_parts, le-ltb}
use Rattle.std.specs.Prelude.{if◌then◌else◌, nat_le, nat_lt, nat_eq, not, ◌||◌, Result, Ok, Err, IfOk, Option, Some, None, IfSome, All}
use Rattle.std.proofs.lemmas.List.Elements.{All-nil, All-cons, All-push, All-filter}
use Rattle.std.specs.List.{AllByRecursion, filter, list_any}
use Rattle.std.specs.Option.{option_to_list}
use Rattle.afdx_conform.proofs.HeldLemmas.{if-true, if-false}
use Rattle.afdx_conform.specs.Streams.{Gone, Terms}
use Rattle.afdx_conform.specs.States.{Event, Closing, State, kept, are_behind}
use Rattle.afdx_conform.specs.HeldStates.{AreClosed, state_of, outdoes, kept_with, AreFront}
use Rattle.afdx_conform.specs.Thinned.{Outdoes, IsOutdone, AreEnough, AreKept, IsAmong}
use Rattle.afdx_conform.proofs.AmongLemmas.{among-left, among-right, among-cases}
use Rattle.afdx_conform.proofs.ThinLemmas.{outdoes-itself, enough-on}
use Rattle.afdx_conform.specs.declared.states.StreamState.{StreamState}

-- ---- closings

behind-later : (time p : ℕ) (ys : List Gone) → are_behind time ys ≡ true → are_behind time (drop p ys) ≡ true
unfolding are_behind
behind-later time p [] h = by p
  where
    by : (p : ℕ) → are_behind time (drop p []) ≡ true
    by zero = refl
    by (suc p) = refl
behind-later time zero (y ∷ ys) h = h
behind-later time (suc p) (y ∷ ys) h =
    behind-later time p ys (and_parts (nat_lt time y.time) (are_behind time ys) h).1

behind-at : (time passed p : ℕ) (ys : List Gone) → are_behind time (drop passed ys) ≡ true → passed ≤ p
    → are_behind time (drop p ys) ≡ true
behind-at time zero p ys h le = behind-later time p ys h
behind-at time (suc passed) zero ys h le = absurd (omega (arith, le))
behind-at time (suc passed) (suc p) [] h le = h
behind-at time (suc passed) (suc p) (y ∷ ys) h le = behind-at time passed p ys h (omega (arith, le))

closed-at : (time passed p : ℕ) (ys : List Gone) → passed ≤ length ys
    → AllByRecursion (λ y. y.time ≤ time) (take passed ys) → p < passed → are_behind time (drop p ys) ≡ false
unfolding are_behind
closed-at time zero p ys within all lt = absurd (omega (arith, lt))
closed-at time (suc passed) p [] within all lt = absurd (omega (arith, within))
closed-at time (suc passed) zero (y ∷ ys) within all lt =
    ap (λ b. b && are_behind time ys) (le-ltb time y.time all.0)
closed-at time (suc passed) (suc p) (y ∷ ys) within all lt =
    closed-at time passed p ys (omega (arith, within)) all.1 (omega (arith, lt))

pub closed-is : (time passed : ℕ) (ys : List Gone) → AreClosed time passed ys
    → (p : ℕ) → are_behind time (drop p ys) ≡ nat_le passed p
closed-is time passed ys c p = by (nat_le passed p) refl
  where
    by : (b : Bool) → nat_le passed p ≡ b → are_behind time (drop p ys) ≡ nat_le passed p
    by true e = behind-at time passed p ys c.behind (leb-true passed p e) ∙ sym e
    by false e = closed-at time passed p ys c.within c.closed (leb-false passed p e) ∙ sym e

-- those of some that pass a test
pub kept-filter : (g : StreamState → State) (test : State → Bool) (told : StreamState → Bool) →
    ((h : StreamState) → test (g h) ≡ told h)
    → (xs : List StreamState) → map g (filter told xs) ≡ kept test (map g xs)
unfolding kept
kept-filter g test told same [] = refl
kept-filter g test told same (x ∷ xs) =
    by (test (g x)) (told x) (same x) (kept-filter g test told same xs)
  where
    by : (c b : Bool) → c ≡ b → map g (filter told xs) ≡ kept test (map g xs)
        → map g (if b then x ∷ filter told xs else filter told xs)
        ≡ (if c then g x ∷ kept test (map g xs) else kept test (map g xs))
    by true true e more = ap (λ (l : List State). g x ∷ l) more
    by false false e more = more
    by true false e more = absurd (cc)
    by false true e more = absurd (cc)

-- what the code leaves at a closing
pub closed-left : (ys : List Gone) (time passed : ℕ) (old new : List StreamState) → AreClosed time passed ys
    → new ≡ filter (λ (h : StreamState). nat_le passed h.passed) old
    → map (state_of ys) new ≡ kept (λ s. are_behind time s.rest) (map (state_of ys) old)
closed-left ys time passed old new closed is =
    ap (λ (l : List StreamState). map (state_of ys) l) is
    ∙ kept-filter (state_of ys) (λ s. are_behind time s.rest) (λ h. nat_le passed h.passed)
    (λ h. closed-is time passed ys closed h.passed) old

-- ---- dropping

pub kept-if-outdone : (s : StreamState) (xs : List StreamState) → list_any (λ x. outdoes x s) xs ≡ true → xs ≡
    kept_with s xs
unfolding kept_with
kept-if-outdone s xs e = sym (if-true (list_any (λ x. outdoes x s) xs) xs _ e)

pub kept-if-not : (s : StreamState) (xs ys : List StreamState) → list_any (λ x. outdoes x s) xs ≡ false
    → ys ≡ filter (λ x. not (outdoes s x)) xs ++ (s ∷ []) → ys ≡ kept_with s xs
unfolding kept_with
kept-if-not s xs ys e k = k ∙ sym (if-false (list_any (λ x. outdoes x s) xs) xs _ e)

module _ (ys : List Gone) where
  outdoes-is : (a b : StreamState) → outdoes a b ≡ true → Outdoes (state_of ys a) (state_of ys b)
  unfolding outdoes
  outdoes-is a b e =
      let one = and_parts (nat_eq a.passed b.passed && nat_le a.levels.lo b.levels.lo && nat_le b.levels.hi a.levels.hi)
      (nat_le a.waiting b.waiting) e in
      let two = and_parts (nat_eq a.passed b.passed && nat_le a.levels.lo b.levels.lo)
      (nat_le b.levels.hi a.levels.hi) one.0 in
      let three = and_parts (nat_eq a.passed b.passed) (nat_le a.levels.lo b.levels.lo) two.0 in
      record {
        rest = ap (λ (n : ℕ). drop n ys) (eqb-true a.passed b.passed three.0);
        lo = leb-true a.levels.lo b.levels.lo three.1;
        hi = leb-true b.levels.hi a.levels.hi two.1;
        waiting = leb-true a.waiting b.waiting one.1;
      }

  -- one that outdoes it is there
  any-outdone : (s : StreamState) (xs : List StreamState) → list_any (λ x. outdoes x s) xs ≡ true
      → IsOutdone (state_of ys s) (map (state_of ys) xs)
  any-outdone s [] e = absurd (cc)
  any-outdone s (x ∷ xs) e = by (outdoes x s) refl e (λ k. any-outdone s xs k)
    where
      by : (b : Bool) → outdoes x s ≡ b → (b || list_any (λ w. outdoes w s) xs) ≡ true
          → (list_any (λ w. outdoes w s) xs ≡ true → IsOutdone (state_of ys s) (map (state_of ys) xs))
          → IsOutdone (state_of ys s) (map (state_of ys) (x ∷ xs))
      by true k h more = record { by = state_of ys x; among = inl refl; outdoes = outdoes-is x s k }
      by false k h more = let o = more h in record { by = o.by; among = inr o.among; outdoes = o.outdoes }

  -- those that stay are some of them
  stay-among : (s : StreamState) (xs : List StreamState) (t : State)
      → IsAmong t (map (state_of ys) (filter (λ x. not (outdoes s x)) xs)) → IsAmong t (map (state_of ys) xs)
  stay-among s [] t h = h
  stay-among s (x ∷ xs) t h = by (outdoes s x) refl h (λ k. stay-among s xs t k)
    where
      by : (b : Bool) → outdoes s x ≡ b
          → IsAmong t (map (state_of ys)
          (if not b then x ∷ filter (λ w. not (outdoes s w)) xs else filter (λ w. not (outdoes s w)) xs))
          → (IsAmong t (map (state_of ys) (filter (λ w. not (outdoes s w)) xs)) → IsAmong t (map (state_of ys) xs))
          → IsAmong t (map (state_of ys) (x ∷ xs))
      by true e k more = inr (more k)
      by false e (inl k) more = inl k
      by false e (inr k) more = inr (more k)

  -- each of them stays, or the new one outdoes it
  stays-or : (s : StreamState) (xs : List StreamState) (t : State) → IsAmong t (map (state_of ys) xs)
      → IsAmong t (map (state_of ys) (filter (λ x. not (outdoes s x)) xs)) ⊎ Outdoes (state_of ys s) t
  stays-or s [] t h = absurd h
  stays-or s (x ∷ xs) t h = by (outdoes s x) refl h (λ k. stays-or s xs t k)
    where
      by : (b : Bool) → outdoes s x ≡ b → IsAmong t (map (state_of ys) (x ∷ xs))
          → (IsAmong t (map (state_of ys) xs)
          → IsAmong t (map (state_of ys) (filter (λ w. not (outdoes s w)) xs)) ⊎ Outdoes (state_of ys s) t)
          → IsAmong t (map (state_of ys)
          (if not b then x ∷ filter (λ w. not (outdoes s w)) xs else filter (λ w. not (outdoes s w)) xs))
          ⊎ Outdoes (state_of ys s) t
      by true e (inl k) more = inr (subst (λ (r : State). Outdoes (state_of ys s) r) k (outdoes-is s x e))
      by true e (inr k) more = more k
      by false e (inl k) more = inl (inl k)
      by false e (inr k) more = later (more k)
        where
          later : IsAmong t (map (state_of ys) (filter (λ w. not (outdoes s w)) xs)) ⊎ Outdoes (state_of ys s) t
              → IsAmong t (state_of ys x ∷ map (state_of ys) (filter (λ w. not (outdoes s w)) xs))
              ⊎ Outdoes (state_of ys s) t
          later (inl m) = inl (inr m)
          later (inr o) = inr o

  pub kept-enough : (s : StreamState) (xs : List StreamState)
      → AreEnough (map (state_of ys) (xs ++ (s ∷ []))) (map (state_of ys) (kept_with s xs))
  unfolding kept_with
  kept-enough s xs = by (list_any (λ x. outdoes x s) xs) refl
    where
      all-is : map (state_of ys) (xs ++ (s ∷ [])) ≡ map (state_of ys) xs ++ (state_of ys s ∷ [])
      all-is = map-append (state_of ys) xs (s ∷ [])

      some-is : map (state_of ys) (filter (λ x. not (outdoes s x)) xs ++ (s ∷ []))
          ≡ map (state_of ys) (filter (λ x. not (outdoes s x)) xs) ++ (state_of ys s ∷ [])
      some-is = map-append (state_of ys) (filter (λ x. not (outdoes s x)) xs) (s ∷ [])

      old : IsOutdone (state_of ys s) (map (state_of ys) xs) → (t : State)
          → IsAmong t (map (state_of ys) xs) ⊎ IsAmong t (state_of ys s ∷ []) → IsOutdone t (map (state_of ys) xs)
      old o t (inl m) = record { by = t; among = m; outdoes = outdoes-itself t }
      old o t (inr (inl k)) = record {
        by = o.by;
        among = o.among;
        outdoes = subst (λ (r : State). Outdoes o.by r) k o.outdoes;
      }
      old o t (inr (inr m)) = absurd m

      new-of : (t : State)
          → IsAmong t (map (state_of ys) (filter (λ x. not (outdoes s x)) xs)) ⊎ IsAmong t (state_of ys s ∷ [])
          → IsAmong t (map (state_of ys) xs) ⊎ IsAmong t (state_of ys s ∷ [])
      new-of t (inl m) = inl (stay-among s xs t m)
      new-of t (inr m) = inr m

      new-out : (t : State)
          → IsAmong t (map (state_of ys) (filter (λ x. not (outdoes s x)) xs)) ⊎ Outdoes (state_of ys s) t
          → IsOutdone t (map (state_of ys) (filter (λ x. not (outdoes s x)) xs) ++ (state_of ys s ∷ []))
      new-out t (inl m) = record { by = t; among = among-left t _ (state_of ys s ∷ []) m; outdoes = outdoes-itself t }
      new-out t (inr o) = record {
        by = state_of ys s;
        among = among-right (state_of ys s) (map (state_of ys) (filter (λ x. not (outdoes s x)) xs))
            (state_of ys s ∷ []) (inl refl);
        outdoes = o;
      }

      new : (t : State) → IsAmong t (map (state_of ys) xs) ⊎ IsAmong t (state_of ys s ∷ [])
          → IsOutdone t (map (state_of ys) (filter (λ x. not (outdoes s x)) xs) ++ (state_of ys s ∷ []))
      new t (inl m) = new-out t (stays-or s xs t m)
      new t (inr (inl k)) =
          new-out t (inr (subst (λ (r : State). Outdoes (state_of ys s) r) k (outdoes-itself (state_of ys s))))
      new t (inr (inr m)) = absurd m

      join : (t : State) → IsAmong t (map (state_of ys) xs) ⊎ IsAmong t (state_of ys s ∷ [])
          → IsAmong t (map (state_of ys) xs ++ (state_of ys s ∷ []))
      join t (inl m) = among-left t (map (state_of ys) xs) (state_of ys s ∷ []) m
      join t (inr m) = among-right t (map (state_of ys) xs) (state_of ys s ∷ []) m

      by : (b : Bool) → list_any (λ x. outdoes x s) xs ≡ b
          → AreEnough (map (state_of ys) (xs ++ (s ∷ [])))
          (map (state_of ys) (if b then xs else filter (λ x. not (outdoes s x)) xs ++ (s ∷ [])))
      by true e = subst (λ (l : List State). AreEnough l (map (state_of ys) xs)) (sym all-is) (record {
        among = λ t m. among-left t (map (state_of ys) xs) (state_of ys s ∷ []) m;
        outdone = λ t m. old (any-outdone s xs e) t (among-cases t (map (state_of ys) xs) (state_of ys s ∷ []) m);
      })
      by false e = subst (λ (l : List State). AreEnough l
          (map (state_of ys) (filter (λ x. not (outdoes s x)) xs ++ (s ∷ [])))) (sym all-is)
          (subst (λ (l : List State). AreEnough (map (state_of ys) xs ++ (state_of ys s ∷ [])) l) (sym some-is)
          (record {
            among = λ t m. join t (new-of t
                (among-cases t (map (state_of ys) (filter (λ x. not (outdoes s x)) xs)) (state_of ys s ∷ []) m));
            outdone = λ t m. new t (among-cases t (map (state_of ys) xs) (state_of ys s ∷ []) m);
          }))

  -- enough of some, and one more
  pub enough-with : (all few : List StreamState) (s : StreamState)
      → AreEnough (map (state_of ys) all) (map (state_of ys) few)
      → AreEnough (map (state_of ys) (all ++ (s ∷ []))) (map (state_of ys) (few ++ (s ∷ [])))
  enough-with all few s h =
      subst (λ (l : List State). AreEnough l (map (state_of ys) (few ++ (s ∷ []))))
      (sym (map-append (state_of ys) all (s ∷ [])))
      (subst (λ (l : List State). AreEnough (map (state_of ys) all ++ (state_of ys s ∷ [])) l)
      (sym (map-append (state_of ys) few (s ∷ []))) (record {
        among = λ t m. inside t (among-cases t (map (state_of ys) few) (state_of ys s ∷ []) m);
        outdone = λ t m. outside t (among-cases t (map (state_of ys) all) (state_of ys s ∷ []) m);
      }))
    where
      inside : (t : State) → IsAmong t (map (state_of ys) few) ⊎ IsAmong t (state_of ys s ∷ [])
          → IsAmong t (map (state_of ys) all ++ (state_of ys s ∷ []))
      inside t (inl m) = among-left t (map (state_of ys) all) (state_of ys s ∷ []) (h.among t m)
      inside t (inr m) = among-right t (map (state_of ys) all) (state_of ys s ∷ []) m

      outside : (t : State) → IsAmong t (map (state_of ys) all) ⊎ IsAmong t (state_of ys s ∷ [])
          → IsOutdone t (map (state_of ys) few ++ (state_of ys s ∷ []))
      outside t (inl m) = let o = h.outdone t m in record {
        by = o.by;
        among = among-left o.by (map (state_of ys) few) (state_of ys s ∷ []) o.among;
        outdoes = o.outdoes;
      }
      outside t (inr m) = record {
        by = t;
        among = among-right t (map (state_of ys) few) (state_of ys s ∷ []) m;
        outdoes = outdoes-itself t;
      }

  pub enough-none : AreEnough [] []
  enough-none = record { among = λ s m. m; outdone = λ s m. absurd m }

  pub enough-next : (xs few more : List StreamState) (i : ℕ) (d : StreamState) → i < length xs
      → AreEnough (map (state_of ys) (take i xs)) (map (state_of ys) few)
      → more ≡ kept_with (get_or xs i d) few
      → AreEnough (map (state_of ys) (take (i + 1) xs)) (map (state_of ys) more)
  enough-next xs few more i d lt h e =
      subst (λ (l : List StreamState). AreEnough (map (state_of ys) (take (i + 1) xs)) (map (state_of ys) l)) (sym e)
      (subst (λ (l : List StreamState). AreEnough (map (state_of ys) l)
      (map (state_of ys) (kept_with (get_or xs i d) few)))
      (sym (take_more xs i d lt))
      (enough-on (map (state_of ys) (take i xs ++ (get_or xs i d ∷ [])))
      (map (state_of ys) (few ++ (get_or xs i d ∷ [])))
      (map (state_of ys) (kept_with (get_or xs i d) few))
      (enough-with (take i xs) few (get_or xs i d) h) (kept-enough (get_or xs i d) few)))

-- ---- none outdoes another

pub all-filter : (P : StreamState → Type 0) (told : StreamState → Bool) (xs : List StreamState) → AllByRecursion P xs
    → AllByRecursion P (filter told xs)
all-filter P told [] all = tt
all-filter P told (x ∷ xs) all = by (told x) (all-filter P told xs all.1)
  where
    by : (b : Bool) → AllByRecursion P (filter told xs)
        → AllByRecursion P (if b then x ∷ filter told xs else filter told xs)
    by true more = (all.0, more)
    by false more = more

front-filter : (told : StreamState → Bool) (xs : List StreamState) → AreFront xs → AreFront (filter told xs)
unfolding AreFront
front-filter told [] h = tt
front-filter told (x ∷ xs) h = by (told x) (front-filter told xs h.1)
  where
    by : (b : Bool) → AreFront (filter told xs) → AreFront (if b then x ∷ filter told xs else filter told xs)
    by true more = (all-filter (λ y. (outdoes x y ≡ false) × (outdoes y x ≡ false)) told xs h.0, more)
    by false more = more

none-any : (s : StreamState) (xs : List StreamState) → list_any (λ x. outdoes x s) xs ≡ false
    → AllByRecursion (λ x. outdoes x s ≡ false) xs
none-any s [] e = tt
none-any s (x ∷ xs) e = by (outdoes x s) refl e (λ k. none-any s xs k)
  where
    by : (b : Bool) → outdoes x s ≡ b → (b || list_any (λ w. outdoes w s) xs) ≡ false
        → (list_any (λ w. outdoes w s) xs ≡ false → AllByRecursion (λ w. outdoes w s ≡ false) xs)
        → AllByRecursion (λ w. outdoes w s ≡ false) (x ∷ xs)
    by true k h more = absurd (cc)
    by false k h more = (k, more h)

none-stays : (s : StreamState) (xs : List StreamState) → AllByRecursion (λ x. outdoes s x ≡ false)
    (filter (λ x. not (outdoes s x)) xs)
none-stays s [] = tt
none-stays s (x ∷ xs) = by (outdoes s x) refl (none-stays s xs)
  where
    by : (b : Bool) → outdoes s x ≡ b → AllByRecursion (λ w. outdoes s w ≡ false) (filter (λ w. not (outdoes s w)) xs)
        → AllByRecursion (λ w. outdoes s w ≡ false)
        (if not b then x ∷ filter (λ w. not (outdoes s w)) xs else filter (λ w. not (outdoes s w)) xs)
    by true k more = more
    by false k more = (k, more)

pub all-with : (P : StreamState → Type 0) (xs : List StreamState) (s : StreamState) → AllByRecursion P xs → P s
    → AllByRecursion P (xs ++ (s ∷ []))
all-with P [] s all h = (h, tt)
all-with P (x ∷ xs) s all h = (all.0, all-with P xs s all.1 h)

-- what is true of those that are kept and of one more is true of what is kept then
pub kept-all : (P : StreamState → Type 0) (s : StreamState) (xs : List StreamState) → All P xs → P s →
    All P (kept_with s xs)
unfolding kept_with
kept-all P s xs all h = by (list_any (λ x. outdoes x s) xs)
  where
    by : (b : Bool) → All P (if b then xs else filter (λ x. not (outdoes s x)) xs ++ (s ∷ []))
    by true = all
    by false = All-push P (filter (λ x. not (outdoes s x)) xs) s (All-filter (λ x. not (outdoes s x)) P xs all) h

pub all-option : (P : StreamState → Type 0) (held : Option StreamState) → IfSome held P → All P (option_to_list held)
all-option P None h = All-nil P
all-option P (Some x) h = All-cons P x [] h (All-nil P)

front-with : (s : StreamState) (xs : List StreamState) → AreFront xs → AllByRecursion (λ x. outdoes x s ≡ false) xs
    → AllByRecursion (λ x. outdoes s x ≡ false) xs → AreFront (xs ++ (s ∷ []))
unfolding AreFront
front-with s [] h before behind = (tt, tt)
front-with s (x ∷ xs) h before behind = (
  all-with (λ y. (outdoes x y ≡ false) × (outdoes y x ≡ false)) xs s h.0 (before.0, behind.0),
  front-with s xs h.1 before.1 behind.1,
)

pub kept-front : (s : StreamState) (xs more : List StreamState) → AreFront xs → more ≡ kept_with s xs → AreFront more
unfolding kept_with
kept-front s xs more h is =
    subst (λ (l : List StreamState). AreFront l) (sym is) (by (list_any (λ x. outdoes x s) xs) refl)
  where
    by : (b : Bool) → list_any (λ x. outdoes x s) xs ≡ b
        → AreFront (if b then xs else filter (λ x. not (outdoes s x)) xs ++ (s ∷ []))
    by true e = h
    by false e = front-with s (filter (λ x. not (outdoes s x)) xs) (front-filter (λ x. not (outdoes s x)) xs h)
        (all-filter (λ x. outdoes x s ≡ false) (λ x. not (outdoes s x)) xs (none-any s xs e)) (none-stays s xs)

pub front-none : AreFront []
unfolding AreFront
front-none = tt

-- ---- after one more event

pub kept-closed : (z : Terms) (ys : List Gone) (before : List Event) (time : ℕ) (held few : List State)
    → few ≡ kept (λ s. are_behind time s.rest) held → AreKept z ys before held
    → AreKept z ys (Closing time ∷ before) few
unfolding AreKept
kept-closed z ys before time held few e h = (
  held,
  h,
  subst (λ (l : List State). AreEnough l few) e
      (record { among = λ s m. m; outdone = λ s m. record { by = s; among = m; outdoes = outdoes-itself s } }),
)

pub if-ok-on : {X E : Type 0} {P Q : X → Type 0} (r : Result X E) → ((x : X) → P x → Q x) → IfOk r P → IfOk r Q
if-ok-on (Ok x) f h = f x h
if-ok-on (Err e) f h = h
