-- What the code keeps of its states is what the definition keeps.
use Rattle.std.proofs.Common.{◌≡◌, ℕ, ◌+◌, ◌≤◌, ◌<◌, Bool, true, false, ◌&&◌, List, [], ◌∷◌, ◌++◌, map, take, drop, get_or, length, refl, sym, ap, ◌∙◌, subst, arith}
use Rattle.std.proofs.lemmas.Bool.{and_from, eqb-true, eqb-false, eq-eqb}
use Rattle.std.proofs.lemmas.List.{map-append, take_more, length-drop}
use Rattle.std.proofs.lemmas.Slice.Eq.{bytes_eq-Decides}
use Rattle.std.specs.Prelude.{if◌then◌else◌, nat_eq, nat_le, not, ◌||◌}
use Rattle.std.specs.List.{AllByRecursion, filter, list_any}
use Rattle.std.specs.Str.{bytes_eq}
use Rattle.afdx_conform.specs.Findings.{are_same, does_more, one_more, thinned_onto}
use Rattle.afdx_conform.specs.HeldStates.{state_of, outdoes, kept_with}
use Rattle.afdx_conform.specs.States.{State}
use Rattle.afdx_conform.specs.Streams.{Gone}
use Rattle.afdx_conform.specs.declared.states.StreamState.{StreamState}
use Rattle.afdx_conform.proofs.FrontLemmas.{same-is}
use Rattle.afdx_conform.proofs.KeepLemmas.{all-filter, all-with}

same-itself : (xs : List Gone) → are_same xs xs ≡ true
unfolding are_same
same-itself [] = refl
same-itself (x ∷ xs) =
    and_from (nat_eq x.number x.number && nat_eq x.time x.time && bytes_eq x.bytes x.bytes) (are_same xs xs)
    (and_from (nat_eq x.number x.number && nat_eq x.time x.time) (bytes_eq x.bytes x.bytes)
    (and_from (nat_eq x.number x.number) (nat_eq x.time x.time) (eq-eqb x.number x.number refl)
    (eq-eqb x.time x.time refl))
    ((bytes_eq-Decides x.bytes x.bytes).1 refl)) (same-itself xs)

same-drops : (ys : List Gone) (p q : ℕ) → p ≤ length ys → q ≤ length ys → nat_eq p q ≡ are_same (drop p ys) (drop q ys)
same-drops ys p q hp hq = by (nat_eq p q) (are_same (drop p ys) (drop q ys)) refl refl
  where
    by : (b c : Bool) → nat_eq p q ≡ b → are_same (drop p ys) (drop q ys) ≡ c
        → nat_eq p q ≡ are_same (drop p ys) (drop q ys)
    by true c e k = e ∙ sym (subst (λ (n : ℕ). are_same (drop p ys) (drop n ys) ≡ true) (eqb-true p q e)
        (same-itself (drop p ys)))
    by false false e k = e ∙ sym k
    by false true e k =
        let lp = length-drop p ys in
        let lq = length-drop q ys in
        let same = ap (λ (l : List Gone). length l) (same-is (drop p ys) (drop q ys) k) in
        let is : p ≡ q = omega (arith, lp, lq, same, hp, hq) in
        absurd (eqb-false p q e is)

module _ (ys : List Gone) where
  abbrev pub IsWithin : StreamState → Type 0
  IsWithin h = h.passed ≤ length ys

  outdoes-same : (a b : StreamState) → IsWithin a → IsWithin b → outdoes a b ≡ does_more (state_of ys a) (state_of ys b)
  unfolding outdoes does_more
  outdoes-same a b ha hb =
      ap (λ (t : Bool). t && nat_le a.levels.lo b.levels.lo && nat_le b.levels.hi a.levels.hi && nat_le a.waiting
      b.waiting)
      (same-drops ys a.passed b.passed ha hb)

  any-same : (s : StreamState) (xs : List StreamState) → IsWithin s → AllByRecursion IsWithin xs
      → list_any (λ x. outdoes x s) xs ≡ list_any (λ t. does_more t (state_of ys s)) (map (state_of ys) xs)
  any-same s [] h all = refl
  any-same s (x ∷ xs) h all =
      ap (λ (t : Bool). t || list_any (λ w. outdoes w s) xs) (outdoes-same x s all.0 h)
      ∙ ap (λ (t : Bool). does_more (state_of ys x) (state_of ys s) || t) (any-same s xs h all.1)

  filter-same-states : (s : StreamState) (xs : List StreamState) → IsWithin s → AllByRecursion IsWithin xs
      → map (state_of ys) (filter (λ x. not (outdoes s x)) xs)
      ≡ filter (λ t. not (does_more (state_of ys s) t)) (map (state_of ys) xs)
  filter-same-states s [] h all = refl
  filter-same-states s (x ∷ xs) h all =
      by (outdoes s x) (does_more (state_of ys s) (state_of ys x)) (outdoes-same s x h all.0)
      (filter-same-states s xs h all.1)
    where
      by : (b c : Bool) → b ≡ c
          → map (state_of ys) (filter (λ w. not (outdoes s w)) xs)
          ≡ filter (λ t. not (does_more (state_of ys s) t)) (map (state_of ys) xs)
          → map (state_of ys) (if not b then x ∷ filter (λ w. not (outdoes s w)) xs
          else filter (λ w. not (outdoes s w)) xs)
          ≡ (if not c then state_of ys x ∷ filter (λ t. not (does_more (state_of ys s) t)) (map (state_of ys) xs)
          else filter (λ t. not (does_more (state_of ys s) t)) (map (state_of ys) xs))
      by true true e more = more
      by false false e more = ap (λ (l : List State). state_of ys x ∷ l) more
      by true false e more = absurd (cc)
      by false true e more = absurd (cc)

  with-same : (s : StreamState) (xs : List StreamState) → IsWithin s → AllByRecursion IsWithin xs
      → map (state_of ys) (kept_with s xs) ≡ one_more (state_of ys s) (map (state_of ys) xs)
  unfolding kept_with one_more
  with-same s xs h all = by (list_any (λ x. outdoes x s) xs) (list_any (λ t. does_more t (state_of ys s))
      (map (state_of ys) xs))
      (any-same s xs h all)
    where
      by : (b c : Bool) → b ≡ c
          → map (state_of ys) (if b then xs else filter (λ x. not (outdoes s x)) xs ++ (s ∷ []))
          ≡ (if c then map (state_of ys) xs
          else filter (λ t. not (does_more (state_of ys s) t)) (map (state_of ys) xs) ++ (state_of ys s ∷ []))
      by true true e = refl
      by false false e = map-append (state_of ys) (filter (λ x. not (outdoes s x)) xs) (s ∷ [])
          ∙ ap (λ (l : List State). l ++ (state_of ys s ∷ [])) (filter-same-states s xs h all)
      by true false e = absurd (cc)
      by false true e = absurd (cc)

  within-with : (s : StreamState) (xs : List StreamState) → IsWithin s → AllByRecursion IsWithin xs
      → AllByRecursion IsWithin (kept_with s xs)
  unfolding kept_with
  within-with s xs h all = by (list_any (λ x. outdoes x s) xs)
    where
      by : (b : Bool) → AllByRecursion IsWithin (if b then xs else filter (λ x. not (outdoes s x)) xs ++ (s ∷ []))
      by true = all
      by false = all-with IsWithin (filter (λ x. not (outdoes s x)) xs) s
          (all-filter IsWithin (λ x. not (outdoes s x)) xs all) h

thinned-more : (few xs : List State) (s : State) → thinned_onto few (xs ++ (s ∷ [])) ≡ one_more s (thinned_onto few xs)
unfolding thinned_onto
thinned-more few [] s = refl
thinned-more few (x ∷ xs) s = thinned-more (one_more x few) xs s

-- so far the code keeps what the definition does
pub record AreFew (ys : List Gone) (few all : List StreamState) : Type 0 where
  pub same : map (state_of ys) few ≡ thinned_onto [] (map (state_of ys) all)
  pub within : AllByRecursion (λ h. h.passed ≤ length ys) few

none : [] ≡ thinned_onto [] []
unfolding thinned_onto
none = refl

pub few-none : (ys : List Gone) → AreFew ys [] []
few-none ys = record { same = none; within = tt }

pub few-next : (ys : List Gone) (xs few more : List StreamState) (i : ℕ) (d : StreamState) → i < length xs
    → (get_or xs i d).passed ≤ length ys → AreFew ys few (take i xs) → more ≡ kept_with (get_or xs i d) few
    → AreFew ys more (take (i + 1) xs)
few-next ys xs few more i d lt h f e = record {
  same = ap (λ (l : List StreamState). map (state_of ys) l) e
      ∙ with-same ys (get_or xs i d) few h f.within
      ∙ ap (λ (l : List State). one_more (state_of ys (get_or xs i d)) l) f.same
      ∙ sym (thinned-more [] (map (state_of ys) (take i xs)) (state_of ys (get_or xs i d)))
      ∙ ap (λ (l : List State). thinned_onto [] l)
      (sym (map-append (state_of ys) (take i xs) (get_or xs i d ∷ [])) ∙
      ap (λ (l : List StreamState). map (state_of ys) l)
      (sym (take_more xs i d lt)));
  within = subst (λ (l : List StreamState). AllByRecursion (λ h. h.passed ≤ length ys) l) (sym e)
      (within-with ys (get_or xs i d) few h f.within);
}
