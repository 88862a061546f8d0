-- Of some states those that no other outdoes are enough.
use Rattle.std.proofs.Common.{◌≡◌, ℕ, Bool, true, false, ◌&&◌, List, [], ◌∷◌, ◌++◌, ◌⊎◌, inl, inr, refl, sym, ap, ◌∙◌, subst}
use Rattle.std.proofs.lemmas.Bool.{eqb-true, leb-true, and_parts}
use Rattle.std.proofs.lemmas.List.{append_assoc, append-nil}
use Rattle.std.proofs.lemmas.Slice.Eq.{bytes_eq-Decides}
use Rattle.std.specs.Prelude.{if◌then◌else◌, nat_eq, nat_le, not, ◌||◌}
use Rattle.std.specs.List.{filter, list_any}
use Rattle.std.specs.Str.{bytes_eq}
use Rattle.afdx_conform.specs.Findings.{are_same, does_more, one_more, thinned_onto}
use Rattle.afdx_conform.specs.States.{State}
use Rattle.afdx_conform.specs.Streams.{Gone}
use Rattle.afdx_conform.specs.Thinned.{Outdoes, IsOutdone, AreEnough, IsAmong}
use Rattle.afdx_conform.proofs.AmongLemmas.{among-left, among-right, among-cases}
use Rattle.afdx_conform.proofs.ThinLemmas.{outdoes-itself, outdoes-on}

abbrev gone : ℕ → ℕ → List ℕ → Gone
gone number time bytes = record { number = number; time = time; bytes = bytes }

gone-same : (x y : Gone) → x.number ≡ y.number → x.time ≡ y.time → x.bytes ≡ y.bytes → x ≡ y
gone-same x y e k h =
    ap (λ (n : ℕ). gone n x.time x.bytes) e ∙ ap (λ (t : ℕ). gone y.number t x.bytes) k
    ∙ ap (λ (b : List ℕ). gone y.number y.time b) h

pub same-is : (xs ys : List Gone) → are_same xs ys ≡ true → xs ≡ ys
unfolding are_same
same-is [] [] e = refl
same-is [] (y ∷ ys) e = absurd (cc)
same-is (x ∷ xs) [] e = absurd (cc)
same-is (x ∷ xs) (y ∷ ys) e =
    let one = and_parts (nat_eq x.number y.number && nat_eq x.time y.time && bytes_eq x.bytes y.bytes)
    (are_same xs ys) e in
    let two = and_parts (nat_eq x.number y.number && nat_eq x.time y.time) (bytes_eq x.bytes y.bytes) one.0 in
    let three = and_parts (nat_eq x.number y.number) (nat_eq x.time y.time) two.0 in
    let head : x ≡ y = gone-same x y (eqb-true x.number y.number three.0) (eqb-true x.time y.time three.1)
    ((bytes_eq-Decides x.bytes y.bytes).0 two.1) in
    let tail : xs ≡ ys = same-is xs ys one.1 in
    cc

does-more : (a b : State) → does_more a b ≡ true → Outdoes a b
unfolding does_more
does-more a b e =
    let one = and_parts (are_same a.rest b.rest && nat_le a.levels.lo b.levels.lo && nat_le b.levels.hi a.levels.hi)
    (nat_le a.waiting b.waiting) e in
    let two = and_parts (are_same a.rest b.rest && nat_le a.levels.lo b.levels.lo) (nat_le b.levels.hi a.levels.hi)
    one.0 in
    let three = and_parts (are_same a.rest b.rest) (nat_le a.levels.lo b.levels.lo) two.0 in
    record {
      rest = same-is a.rest b.rest three.0;
      lo = leb-true a.levels.lo b.levels.lo three.1;
      hi = leb-true b.levels.hi a.levels.hi two.1;
      waiting = leb-true a.waiting b.waiting one.1;
    }

any-does : (s : State) (xs : List State) → list_any (λ x. does_more x s) xs ≡ true → IsOutdone s xs
any-does s [] e = absurd (cc)
any-does s (x ∷ xs) e = by (does_more x s) refl e (λ k. any-does s xs k)
  where
    by : (b : Bool) → does_more x s ≡ b → (b || list_any (λ w. does_more w s) xs) ≡ true
        → (list_any (λ w. does_more w s) xs ≡ true → IsOutdone s xs) → IsOutdone s (x ∷ xs)
    by true k h more = record { by = x; among = inl refl; outdoes = does-more x s k }
    by false k h more = let o = more h in record { by = o.by; among = inr o.among; outdoes = o.outdoes }

stay-some : (s : State) (xs : List State) (t : State) → IsAmong t (filter (λ x. not (does_more s x)) xs) → IsAmong t xs
stay-some s [] t h = h
stay-some s (x ∷ xs) t h = by (does_more s x) refl h (λ k. stay-some s xs t k)
  where
    by : (b : Bool) → does_more s x ≡ b
        → IsAmong t (if not b then x ∷ filter (λ w. not (does_more s w)) xs else filter (λ w. not (does_more s w)) xs)
        → (IsAmong t (filter (λ w. not (does_more s w)) xs) → IsAmong t xs) → IsAmong t (x ∷ xs)
    by true e k more = inr (more k)
    by false e (inl k) more = inl k
    by false e (inr k) more = inr (more k)

stays-or-less : (s : State) (xs : List State) (t : State) → IsAmong t xs
    → IsAmong t (filter (λ x. not (does_more s x)) xs) ⊎ Outdoes s t
stays-or-less s [] t h = absurd h
stays-or-less s (x ∷ xs) t h = by (does_more s x) refl h (λ k. stays-or-less s xs t k)
  where
    by : (b : Bool) → does_more s x ≡ b → IsAmong t (x ∷ xs)
        → (IsAmong t xs → IsAmong t (filter (λ w. not (does_more s w)) xs) ⊎ Outdoes s t)
        → IsAmong t (if not b then x ∷ filter (λ w. not (does_more s w)) xs else filter (λ w. not (does_more s w)) xs)
        ⊎ Outdoes s t
    by true e (inl k) more = inr (subst (λ (r : State). Outdoes s r) k (does-more s x e))
    by true e (inr k) more = more k
    by false e (inl k) more = inl (inl k)
    by false e (inr k) more = later (more k)
      where
        later : IsAmong t (filter (λ w. not (does_more s w)) xs) ⊎ Outdoes s t
            → IsAmong t (x ∷ filter (λ w. not (does_more s w)) xs) ⊎ Outdoes s t
        later (inl m) = inl (inr m)
        later (inr o) = inr o

-- enough of some and one more are enough with that one
one-more-enough : (all few : List State) (s : State) → AreEnough all few → AreEnough (all ++ (s ∷ [])) (one_more s few)
unfolding one_more
one-more-enough all few s h = by (list_any (λ x. does_more x s) few) refl
  where
    left : (t : State) → IsAmong t all → IsAmong t (all ++ (s ∷ []))
    left t m = among-left t all (s ∷ []) m

    old : IsOutdone s few → (t : State) → IsAmong t all ⊎ IsAmong t (s ∷ []) → IsOutdone t few
    old o t (inl m) = h.outdone t m
    old o t (inr (inl k)) = record {
      by = o.by;
      among = o.among;
      outdoes = subst (λ (r : State). Outdoes o.by r) k o.outdoes;
    }
    old o t (inr (inr m)) = absurd m

    inside : (t : State) → IsAmong t (filter (λ x. not (does_more s x)) few) ⊎ IsAmong t (s ∷ [])
        → IsAmong t (all ++ (s ∷ []))
    inside t (inl m) = left t (h.among t (stay-some s few t m))
    inside t (inr m) = among-right t all (s ∷ []) m

    over : (t u : State) → Outdoes u t → IsAmong u (filter (λ x. not (does_more s x)) few) ⊎ Outdoes s u
        → IsOutdone t (filter (λ x. not (does_more s x)) few ++ (s ∷ []))
    over t u o (inl m) = record { by = u; among = among-left u _ (s ∷ []) m; outdoes = o }
    over t u o (inr k) = record {
      by = s;
      among = among-right s (filter (λ x. not (does_more s x)) few) (s ∷ []) (inl refl);
      outdoes = outdoes-on s u t k o;
    }

    new : (t : State) → IsAmong t all ⊎ IsAmong t (s ∷ [])
        → IsOutdone t (filter (λ x. not (does_more s x)) few ++ (s ∷ []))
    new t (inl m) = let o = h.outdone t m in over t o.by o.outdoes (stays-or-less s few o.by o.among)
    new t (inr (inl k)) = over t s (subst (λ (r : State). Outdoes s r) k (outdoes-itself s)) (inr (outdoes-itself s))
    new t (inr (inr m)) = absurd m

    by : (b : Bool) → list_any (λ x. does_more x s) few ≡ b
        → AreEnough (all ++ (s ∷ [])) (if b then few else filter (λ x. not (does_more s x)) few ++ (s ∷ []))
    by true e = record {
      among = λ t m. left t (h.among t m);
      outdone = λ t m. old (any-does s few e) t (among-cases t all (s ∷ []) m);
    }
    by false e = record {
      among = λ t m. inside t (among-cases t (filter (λ x. not (does_more s x)) few) (s ∷ []) m);
      outdone = λ t m. new t (among-cases t all (s ∷ []) m);
    }

pub thinned-enough : (all few xs : List State) → AreEnough all few → AreEnough (all ++ xs) (thinned_onto few xs)
unfolding thinned_onto
thinned-enough all few [] h = subst (λ (l : List State). AreEnough l few) (sym (append-nil all)) h
thinned-enough all few (s ∷ xs) h =
    subst (λ (l : List State). AreEnough l (thinned_onto (one_more s few) xs)) (append_assoc all (s ∷ []) xs)
    (thinned-enough (all ++ (s ∷ [])) (one_more s few) xs (one-more-enough all few s h))
