-- States where more frames left later, and that one is always left.
use Rattle.std.proofs.Common.{◌≡◌, ℕ, ◌+◌, Bool, true, false, ◌&&◌, List, [], ◌∷◌, ◌++◌, map, length, refl, sym, ap, ◌∙◌, subst, arith}
use Rattle.std.proofs.lemmas.Bool.{lt-ltb, le-ltb, ltb-true, ltb-false, eq-eqb, eqb-true}
use Rattle.std.proofs.lemmas.List.{length-append, append_cancel_right}
use Rattle.std.proofs.lemmas.Slice.Eq.{bytes_eq-Decides}
use Rattle.std.specs.Prelude.{if◌then◌else◌, nat_lt, nat_le, nat_eq, not}
use Rattle.std.specs.List.{list_any, filter}
use Rattle.afdx_police.specs.Arrival.{Arrival}
use Rattle.afdx_conform.specs.Ahead.{with_more}
use Rattle.afdx_conform.specs.Explanations.{link, charge, levels_then}
use Rattle.afdx_conform.specs.Findings.{are_same, does_more, one_more, thinned_onto, has_some, front_rest, lead, with_rest, aged, as_accepted}
use Rattle.afdx_conform.specs.Laws.{IsSomeState}
use Rattle.afdx_conform.specs.Levels.{charged}
use Rattle.afdx_conform.specs.States.{State, state_with, kept}
use Rattle.afdx_conform.specs.Streams.{Gone, Terms}
use Rattle.afdx_conform.proofs.AheadLemmas.{map-joined}
use Rattle.afdx_conform.proofs.AmongLemmas.{among-some, kept-among}
use Rattle.afdx_conform.proofs.FindingLemmas.{front-is}
use Rattle.afdx_conform.proofs.FrontLemmas.{same-is}

-- ---- numbers

pub lt-more : (a b n : ℕ) → nat_lt (a + n) (b + n) ≡ nat_lt a b
lt-more a b n = by (nat_lt a b) refl
  where
    by : (c : Bool) → nat_lt a b ≡ c → nat_lt (a + n) (b + n) ≡ c
    by true e = let h = ltb-true a b e in lt-ltb (a + n) (b + n) (omega (arith, h))
    by false e = let h = ltb-false a b e in le-ltb (a + n) (b + n) (omega (arith, h))

pub eq-more : (a b n : ℕ) → nat_eq (a + n) (b + n) ≡ nat_eq a b
eq-more a b n = by (nat_eq a b) refl (nat_eq (a + n) (b + n)) refl
  where
    by : (c : Bool) → nat_eq a b ≡ c → (d : Bool) → nat_eq (a + n) (b + n) ≡ d → nat_eq (a + n) (b + n) ≡ c
    by true e d k = let h = eqb-true a b e in eq-eqb (a + n) (b + n) (omega (arith, h))
    by false e true k =
        let h = eqb-true (a + n) (b + n) k in
        let same : a ≡ b = omega (arith, h) in
        let yes : nat_eq a b ≡ true = eq-eqb a b same in
        absurd (cc)
    by false e false k = k

-- ---- maps

pub any-through : (test told : State → Bool) (g : State → State) → ((s : State) → test (g s) ≡ told s)
    → (l : List State)
    → list_any test (map g l) ≡ list_any told l
any-through test told g same [] = refl
any-through test told g same (s ∷ l) = rw (same s, any-through test told g same l) refl

pub filter-through : (test told : State → Bool) (g : State → State) → ((s : State) → test (g s) ≡ told s)
    → (l : List State)
    → filter test (map g l) ≡ map g (filter told l)
filter-through test told g same [] = refl
filter-through test told g same (s ∷ l) = by (test (g s)) (told s) (same s) (filter-through test told g same l)
  where
    by : (c d : Bool) → c ≡ d → filter test (map g l) ≡ map g (filter told l)
        → (if c then g s ∷ filter test (map g l) else filter test (map g l))
        ≡ map g (if d then s ∷ filter told l else filter told l)
    by true true e h = ap (λ (k : List State). g s ∷ k) h
    by false false e h = h
    by true false e h = absurd (cc)
    by false true e h = absurd (cc)

pub kept-through : (test told : State → Bool) (g : State → State) → ((s : State) → test (g s) ≡ told s)
    → (l : List State)
    → kept test (map g l) ≡ map g (kept told l)
unfolding kept
kept-through test told g same [] = refl
kept-through test told g same (s ∷ l) = by (test (g s)) (told s) (same s) (kept-through test told g same l)
  where
    by : (c d : Bool) → c ≡ d → kept test (map g l) ≡ map g (kept told l)
        → (if c then g s ∷ kept test (map g l) else kept test (map g l))
        ≡ map g (if d then s ∷ kept told l else kept told l)
    by true true e h = ap (λ (k : List State). g s ∷ k) h
    by false false e h = h
    by true false e h = absurd (cc)
    by false true e h = absurd (cc)

-- ---- the same frames

same-itself : (xs : List Gone) → are_same xs xs ≡ true
unfolding are_same
same-itself [] = refl
same-itself (x ∷ xs) =
    rw (eq-eqb x.number x.number refl, eq-eqb x.time x.time refl, (bytes_eq-Decides x.bytes x.bytes).1 refl)
    (same-itself xs)

same-more : (xs ys more : List Gone) → are_same (xs ++ more) (ys ++ more) ≡ are_same xs ys
same-more xs ys more = by (are_same xs ys) refl (are_same (xs ++ more) (ys ++ more)) refl
  where
    by : (c : Bool) → are_same xs ys ≡ c → (d : Bool) → are_same (xs ++ more) (ys ++ more) ≡ d
        → are_same (xs ++ more) (ys ++ more) ≡ c
    by true e d k =
        subst (λ (l : List Gone). are_same (xs ++ more) (l ++ more) ≡ true) (same-is xs ys e) (same-itself (xs ++ more))
    by false e true k =
        let one = append_cancel_right xs ys more (same-is (xs ++ more) (ys ++ more) k) in
        let same : are_same xs ys ≡ true = subst (λ (l : List Gone). are_same xs l ≡ true) one (same-itself xs) in
        absurd (cc)
    by false e false k = k

module _ (more : List Gone) where
  abbrev M : List State → List State
  M l = map (with_more more) l

  does-same : (a b : State) → does_more (with_more more a) (with_more more b) ≡ does_more a b
  unfolding does_more
  does-same a b =
      ap (λ (c : Bool). c && nat_le a.levels.lo b.levels.lo && nat_le b.levels.hi a.levels.hi
      && nat_le a.waiting b.waiting) (same-more a.rest b.rest more)

  one-same : (s : State) (l : List State) → one_more (with_more more s) (M l) ≡ M (one_more s l)
  unfolding one_more
  one-same s l =
      ap (λ (c : Bool). if c then M l
      else filter (λ x. not (does_more (with_more more s) x)) (M l) ++ (with_more more s ∷ []))
      (any-through (λ x. does_more x (with_more more s)) (λ x. does_more x s) (with_more more) (λ x. does-same x s) l)
      ∙ by (list_any (λ x. does_more x s) l)
    where
      by : (b : Bool)
          → (if b then M l else filter (λ x. not (does_more (with_more more s) x)) (M l) ++ (with_more more s ∷ []))
          ≡ M (if b then l else filter (λ x. not (does_more s x)) l ++ (s ∷ []))
      by true = refl
      by false =
          ap (λ (k : List State). k ++ (with_more more s ∷ []))
          (filter-through (λ x. not (does_more (with_more more s) x)) (λ x. not (does_more s x)) (with_more more)
          (λ x. ap (λ (c : Bool). not c) (does-same s x)) l)
          ∙ sym (map-joined (with_more more) (filter (λ x. not (does_more s x)) l) (s ∷ []))

  pub thinned-same : (few l : List State) → thinned_onto (M few) (M l) ≡ M (thinned_onto few l)
  unfolding thinned_onto
  thinned-same few [] = refl
  thinned-same few (s ∷ l) =
      ap (λ (k : List State). thinned_onto k (M l)) (one-same s few) ∙ thinned-same (one_more s few) l

  -- ---- the front

  pub front-more : (l : List State) → IsSomeState l → front_rest (M l) ≡ front_rest l ++ more
  unfolding front_rest
  front-more [] h = absurd h
  front-more (s ∷ []) h = refl
  front-more (s ∷ t ∷ l) h =
      let behind = front-more (t ∷ l) tt in
      let lengths : nat_lt (length (s.rest ++ more)) (length (front_rest (M (t ∷ l))))
      ≡ nat_lt (length s.rest) (length (front_rest (t ∷ l))) =
      ap (λ (k : List Gone). nat_lt (length (s.rest ++ more)) (length k)) behind
      ∙ ap (λ (n : ℕ). nat_lt n (length (front_rest (t ∷ l) ++ more))) (length-append s.rest more)
      ∙ ap (λ (n : ℕ). nat_lt (length s.rest + length more) n) (length-append (front_rest (t ∷ l)) more)
      ∙ lt-more (length s.rest) (length (front_rest (t ∷ l))) (length more) in
      ap (λ (b : Bool). if b then s.rest ++ more else front_rest (M (t ∷ l))) lengths
      ∙ by (nat_lt (length s.rest) (length (front_rest (t ∷ l)))) behind
    where
      by : (b : Bool) → front_rest (M (t ∷ l)) ≡ front_rest (t ∷ l) ++ more
          → (if b then s.rest ++ more else front_rest (M (t ∷ l))) ≡ (if b then s.rest else front_rest (t ∷ l)) ++ more
      by true e = refl
      by false e = e

  pub lead-more : (l : List State) → IsSomeState l → lead (M l) ≡ M (lead l)
  lead-more l h =
      kept-through (λ s. nat_eq (length s.rest) (length (front_rest (M l))))
      (λ s. nat_eq (length s.rest) (length (front_rest l)))
      (with_more more)
      (λ s. ap (λ (k : List Gone). nat_eq (length (s.rest ++ more)) (length k)) (front-more l h)
      ∙ ap (λ (n : ℕ). nat_eq n (length (front_rest l ++ more))) (length-append s.rest more)
      ∙ ap (λ (n : ℕ). nat_eq (length s.rest + length more) n) (length-append (front_rest l) more)
      ∙ eq-more (length s.rest) (length (front_rest l)) (length more)) l

  pub rest-more : (rest : List Gone) (l : List State) → with_rest (rest ++ more) (M l) ≡ M (with_rest rest l)
  rest-more rest [] = refl
  rest-more rest (s ∷ l) = ap (λ (k : List State). state_with (rest ++ more) s.levels s.waiting ∷ k) (rest-more rest l)

  pub has-more : (l : List State) → has_some (M l) ≡ has_some l
  has-more [] = refl
  has-more (s ∷ l) = refl

  pub aged-more : (z : Terms) (last : ℕ) (x : Arrival) (l : List State) → aged z last x (M l) ≡ M (aged z last x l)
  aged-more z last x [] = refl
  aged-more z last x (s ∷ l) =
      ap (λ (k : List State). state_with (s.rest ++ more) (levels_then z s.levels last x) s.waiting ∷ k)
      (aged-more z last x l)

  pub accepted-more : (z : Terms) (x : Arrival) (l : List State) → as_accepted z x (M l) ≡ M (as_accepted z x l)
  accepted-more z x [] = refl
  accepted-more z x (s ∷ l) =
      ap (λ (k : List State). state_with (s.rest ++ more) (charged (link z) z.by (charge z x) s.levels) s.waiting ∷ k)
      (accepted-more z x l)

-- ---- a state is left

pub map-some : (f : State → State) (l : List State) → IsSomeState l → IsSomeState (map f l)
map-some f [] h = h
map-some f (s ∷ l) h = tt

pub lead-some : (l : List State) → IsSomeState l → IsSomeState (lead l)
lead-some l h =
    let f = front-is l h in
    among-some f.of (lead l) (kept-among (λ s. nat_eq (length s.rest) (length (front_rest l))) l f.of f.among
    (eq-eqb (length f.of.rest) (length (front_rest l)) (ap (λ (r : List Gone). length r) f.rest)))
