-- States of which none outdoes another, as other numbers of frames are explained in them.
use Rattle.std.proofs.Common.{◌≡◌, ℕ, ◌+◌, ◌≤◌, ◌<◌, Bool, true, false, ◌&&◌, List, [], ◌∷◌, ◌++◌, take, get_or, length, refl, sym, ap, ◌∙◌, subst, arith}
use Rattle.std.proofs.lemmas.Bool.{and_parts, eqb-true}
use Rattle.std.proofs.lemmas.List.{take_all}
use Rattle.std.proofs.lemmas.List.Elements.{All-nil}
use Rattle.std.specs.Prelude.{if◌then◌else◌, nat_eq, nat_le, not, ◌||◌, map, All}
use Rattle.std.specs.List.{AllByRecursion, filter, list_any}
use Rattle.afdx_conform.specs.HeldStates.{outdoes, kept_with, state_of, AreFront, IsWithin}
use Rattle.afdx_conform.specs.Streams.{Gone}
use Rattle.afdx_conform.specs.Thinned.{AreEnough}
use Rattle.afdx_conform.specs.declared.levels.Rates.{Rates}
use Rattle.afdx_conform.specs.declared.states.StreamState.{StreamState}
use Rattle.afdx_conform.proofs.KeepLemmas.{enough-none, enough-next, kept-front, front-none, kept-all}
use Rattle.afdx_conform.proofs.FewLemmas.{AreFew, few-none, few-next}

-- fewer frames are explained in each
abbrev pub AreBelow : ℕ → List StreamState → Type 0
AreBelow top xs = AllByRecursion (λ h. h.passed < top) xs

pub below-none : (top : ℕ) → AreBelow top []
below-none top = tt

pub below-on : (top bound : ℕ) (xs : List StreamState) → top ≤ bound → AreBelow top xs → AreBelow bound xs
below-on top bound [] le all = tt
below-on top bound (x ∷ xs) le all = let h = all.0 in (omega (arith, h, le), below-on top bound xs le all.1)

outdoes-equal : (a b : StreamState) → outdoes a b ≡ true → a.passed ≡ b.passed
unfolding outdoes
outdoes-equal a b e =
    let one = and_parts (nat_eq a.passed b.passed && nat_le a.levels.lo b.levels.lo && nat_le b.levels.hi a.levels.hi)
    (nat_le a.waiting b.waiting) e in
    let two = and_parts (nat_eq a.passed b.passed && nat_le a.levels.lo b.levels.lo) (nat_le b.levels.hi a.levels.hi)
    one.0 in
    let three = and_parts (nat_eq a.passed b.passed) (nat_le a.levels.lo b.levels.lo) two.0 in
    eqb-true a.passed b.passed three.0

outdoes-below : (a b : StreamState) → a.passed < b.passed → outdoes a b ≡ false
outdoes-below a b lt = by (outdoes a b) refl
  where
    by : (t : Bool) → outdoes a b ≡ t → outdoes a b ≡ false
    by false e = e
    by true e = let same = outdoes-equal a b e in absurd (omega (arith, lt, same))

outdoes-above : (a b : StreamState) → b.passed < a.passed → outdoes a b ≡ false
outdoes-above a b lt = by (outdoes a b) refl
  where
    by : (t : Bool) → outdoes a b ≡ t → outdoes a b ≡ false
    by false e = e
    by true e = let same = outdoes-equal a b e in absurd (omega (arith, lt, same))

any-apart : (s : StreamState) (xs ys : List StreamState) → AreBelow s.passed xs
    → list_any (λ x. outdoes x s) (xs ++ ys) ≡ list_any (λ x. outdoes x s) ys
any-apart s [] ys all = refl
any-apart s (x ∷ xs) ys all =
    ap (λ (t : Bool). t || list_any (λ w. outdoes w s) (xs ++ ys)) (outdoes-below x s all.0) ∙ any-apart s xs ys all.1

filter-apart : (s : StreamState) (xs ys : List StreamState) → AreBelow s.passed xs
    → filter (λ x. not (outdoes s x)) (xs ++ ys) ≡ xs ++ filter (λ x. not (outdoes s x)) ys
filter-apart s [] ys all = refl
filter-apart s (x ∷ xs) ys all = by (outdoes s x) (outdoes-above s x all.0) (filter-apart s xs ys all.1)
  where
    by : (t : Bool) → t ≡ false
        → filter (λ w. not (outdoes s w)) (xs ++ ys) ≡ xs ++ filter (λ w. not (outdoes s w)) ys
        → (if not t then x ∷ filter (λ w. not (outdoes s w)) (xs ++ ys) else filter (λ w. not (outdoes s w)) (xs ++ ys))
        ≡ x ∷ (xs ++ filter (λ w. not (outdoes s w)) ys)
    by false e more = ap (λ (l : List StreamState). x ∷ l) more
    by true e more = absurd (cc)

append-on : (xs ys zs : List StreamState) → (xs ++ ys) ++ zs ≡ xs ++ (ys ++ zs)
append-on [] ys zs = refl
append-on (x ∷ xs) ys zs = ap (λ (l : List StreamState). x ∷ l) (append-on xs ys zs)

pub kept-apart : (s : StreamState) (xs ys : List StreamState) → AreBelow s.passed xs
    → kept_with s (xs ++ ys) ≡ xs ++ kept_with s ys
unfolding kept_with
kept-apart s xs ys all = by (list_any (λ x. outdoes x s) (xs ++ ys)) (list_any (λ x. outdoes x s) ys)
    (any-apart s xs ys all)
  where
    by : (b c : Bool) → b ≡ c
        → (if b then xs ++ ys else filter (λ x. not (outdoes s x)) (xs ++ ys) ++ (s ∷ []))
        ≡ xs ++ (if c then ys else filter (λ x. not (outdoes s x)) ys ++ (s ∷ []))
    by true true e = refl
    by false false e = ap (λ (l : List StreamState). l ++ (s ∷ [])) (filter-apart s xs ys all)
        ∙ append-on xs (filter (λ x. not (outdoes s x)) ys) (s ∷ [])
    by true false e = absurd (cc)
    by false true e = absurd (cc)

-- these are what is kept of the first of all
pub record AreKeptOf (first all out : List StreamState) : Type 0 where
  pub enough : (ys : List Gone) → AreEnough (map (state_of ys) first) (map (state_of ys) out)
  pub front : AreFront out
  pub few : (ys : List Gone) → All (λ h. h.passed ≤ length ys) all → AreFew ys out first
  pub within : (rates : Rates) (frames count : ℕ) → All (λ h. IsWithin rates frames count h) all
      → All (λ h. IsWithin rates frames count h) out

pub kept-of-none : (all out : List StreamState) → out ≡ [] → AreKeptOf [] all out
kept-of-none all out e = subst (λ (l : List StreamState). AreKeptOf [] all l) (sym e) (record {
  enough = λ ys. enough-none ys;
  front = front-none;
  few = λ ys h. few-none ys;
  within = λ rates frames count h. All-nil (λ (x : StreamState). IsWithin rates frames count x);
})

pub kept-of-next : (all out more : List StreamState) (i : ℕ) (d : StreamState) → i < length all →
    AreKeptOf (take i all) all out
    → more ≡ kept_with (get_or all i d) out → AreKeptOf (take (i + 1) all) all more
kept-of-next all out more i d lt k e = record {
  enough = λ ys. enough-next ys all out more i d lt (k.enough ys) e;
  front = kept-front (get_or all i d) out more k.front e;
  few = λ ys h. few-next ys all out more i d lt (h i d lt) (k.few ys h) e;
  within = λ rates frames count h. subst (λ (l : List StreamState). All (λ x. IsWithin rates frames count x) l) (sym e)
      (kept-all (λ x. IsWithin rates frames count x) (get_or all i d) out (k.within rates frames count h) (h i d lt));
}

pub kept-of-set-aside : (s : StreamState) (done0 few0 done1 few1 few2 : List StreamState) (least : ℕ)
    → (done1 ++ few1) ≡ (done0 ++ few0) → AreBelow least done1 → least ≤ s.passed → few2 ≡ kept_with s few1
    → (done1 ++ few2) ≡ kept_with s (done0 ++ few0)
kept-of-set-aside s done0 few0 done1 few1 few2 least same below le e =
    ap (λ (l : List StreamState). done1 ++ l) e
    ∙ sym (kept-apart s done1 few1 (below-on least s.passed done1 le below))
    ∙ ap (λ (l : List StreamState). kept_with s l) same

pub kept-of-all : (all out more : List StreamState) (i : ℕ) → length all ≤ i → AreKeptOf (take i all) all out → more ≡
    out
    → AreKeptOf all all more
kept-of-all all out more i le k e = subst (λ (l : List StreamState). AreKeptOf all all l) (sym e)
    (subst (λ (l : List StreamState). AreKeptOf l all out) (take_all i all le) k)
