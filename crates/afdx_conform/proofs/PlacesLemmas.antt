-- Where the arrivals of some bytes stand: what is kept of them, and that these are all.
use Rattle.std.proofs.Common.{◌≡◌, ℕ, zero, suc, ◌+◌, ◌<◌, ◌≤◌, Bool, true, false, List, [], ◌∷◌, ◌++◌, ◌⊎◌, inl, inr, ltb, Ordering, Less, Equal, Greater, take, drop, get_or, length, refl, sym, ap, ◌∙◌, subst, arith}
use Rattle.std.proofs.lemmas.List.{append-nil, drop-drop, drop_more, length-drop, take_more}
use Rattle.std.proofs.lemmas.List.Sorted.{IsPartitionedBy-ltb}
use Rattle.std.proofs.lemmas.Bool.{false_from_ne_true, ltb-true, ltb-false}
use Rattle.std.proofs.lemmas.Map.Lookups.{exact_bytes}
use Rattle.std.proofs.lemmas.Slice.Eq.{bytes_eq-Decides}
use Rattle.std.specs.BTreeMap.{UpdatesBy, is_at}
use Rattle.std.specs.Cmp.Lexicographic.{slice_cmp}
use Rattle.std.specs.Global.{Vec}
use Rattle.std.specs.List.Sorted.{IsNonDecreasingBy, IsPartitionPoint, IsPartitionedBy}
use Rattle.std.specs.Map.{KeepsOthers, lookup}
use Rattle.std.specs.Ordering.{eq_by_cmp, is_eq, nat_cmp}
use Rattle.std.specs.Prelude.{if◌then◌else◌, Option, Some, None}
use Rattle.std.specs.Str.{bytes_eq}
use Rattle.afdx_conform.specs.KnownBytes.{AreEach, AreKept, AreOthers, StandAt, all_of, has_bytes, kept_at, kept_of, places_from}
use Rattle.afdx_conform.specs.declared.arrived.Arrived.{Arrived}
use Rattle.afdx_conform.specs.declared.by_bytes.ByBytes.{ByBytes}
use Rattle.afdx_conform.specs.declared.known_bytes.KnownBytes.{KnownBytes}
use Rattle.afdx_conform.specs.declared.places.KeyPlaces.{KeyPlaces}

-- ---- one more place

from-one : (bytes : List ℕ) (at : ℕ) (a : Arrived)
    → places_from bytes at (a ∷ []) ≡ (if bytes_eq a.bytes bytes then at ∷ [] else [])
unfolding places_from
from-one bytes at a = refl

pub from-none : (bytes : List ℕ) (at : ℕ) → places_from bytes at [] ≡ []
unfolding places_from
from-none bytes at = refl

from-more : (bytes : List ℕ) (at : ℕ) (xs : List Arrived) (a : Arrived)
    → places_from bytes at (xs ++ (a ∷ [])) ≡ places_from bytes at xs ++ places_from bytes (at + length xs) (a ∷ [])
unfolding places_from
from-more bytes at [] a =
    let same : at + 0 ≡ at = omega arith in
    ap (λ (n : ℕ). if bytes_eq a.bytes bytes then n ∷ [] else []) (sym same)
from-more bytes at (x ∷ xs) a = by (bytes_eq x.bytes bytes) (from-more bytes (at + 1) xs a)
  where
    on : at + 1 + length xs ≡ at + suc (length xs)
    on = omega arith

    by : (b : Bool)
        → places_from bytes (at + 1) (xs ++ (a ∷ []))
        ≡ places_from bytes (at + 1) xs ++ places_from bytes (at + 1 + length xs) (a ∷ [])
        → (if b then at ∷ places_from bytes (at + 1) (xs ++ (a ∷ [])) else places_from bytes (at + 1) (xs ++ (a ∷ [])))
        ≡ (if b then at ∷ places_from bytes (at + 1) xs else places_from bytes (at + 1) xs)
        ++ places_from bytes (at + suc (length xs)) (a ∷ [])
    by true e = ap (λ (l : List ℕ). at ∷ l) (e
        ∙ ap (λ (n : ℕ). places_from bytes (at + 1) xs ++ places_from bytes n (a ∷ [])) on)
    by false e = e ∙ ap (λ (n : ℕ). places_from bytes (at + 1) xs ++ places_from bytes n (a ∷ [])) on

more-if : (b : Bool) (l : List ℕ) (place : ℕ) → (if b then l ++ (place ∷ []) else l) ≡ l
    ++ (if b then place ∷ [] else [])
more-if true l place = refl
more-if false l place = sym (append-nil l)

-- each place is kept, once that of one more arrival is
pub kept-more : (old new : ByBytes) (xs : List Arrived) (a : Arrived) (place : ℕ) → place ≡ length xs
    → ((other : List ℕ) → kept_of new other ≡ (if bytes_eq a.bytes other then kept_of old other ++ (place ∷ []) else
    kept_of old other))
    → AreKept old xs → AreKept new (xs ++ (a ∷ []))
kept-more old new xs a place at added kept other =
    let from : 0 + length xs ≡ place = omega (arith, at) in
    added other
    ∙ ap (λ (l : List ℕ). if bytes_eq a.bytes other then l ++ (place ∷ []) else l) (kept other)
    ∙ more-if (bytes_eq a.bytes other) (places_from other 0 xs) place
    ∙ ap (λ (l : List ℕ). places_from other 0 xs ++ l) (sym (from-one other place a))
    ∙ ap (λ (n : ℕ). places_from other 0 xs ++ places_from other n (a ∷ [])) (sym from)
    ∙ sym (from-more other 0 xs a)

pub kept-next : (places : ByBytes) (xs : List Arrived) (i : ℕ) (a : Arrived) → i < length xs → a ≡ get_or xs i a
    → AreKept places (take i xs ++ (a ∷ [])) → AreKept places (take (i + 1) xs)
kept-next places xs i a lt is kept = subst (λ (l : List Arrived). AreKept places l)
    (ap (λ (b : Arrived). take i xs ++ (b ∷ [])) is ∙ sym (take_more xs i a lt)) kept

-- ---- all that pass a test stand there

pub kept-stand : (bytes : List ℕ) (at : ℕ) (xs : List Arrived)
    → StandAt (has_bytes bytes) at xs (places_from bytes at xs)
unfolding StandAt places_from
kept-stand bytes at [] = refl
kept-stand bytes at (a ∷ xs) = by (bytes_eq a.bytes bytes) refl (kept-stand bytes (at + 1) xs)
  where
    by : (b : Bool) → bytes_eq a.bytes bytes ≡ b
        → StandAt (has_bytes bytes) (at + 1) xs (places_from bytes (at + 1) xs)
        → ((rest : List ℕ) × ((if b then at ∷ places_from bytes (at + 1) xs
        else places_from bytes (at + 1) xs) ≡ at ∷ rest) × StandAt (has_bytes bytes) (at + 1) xs rest)
        ⊎ ((bytes_eq a.bytes bytes ≡ false) × StandAt (has_bytes bytes) (at + 1) xs
        (if b then at ∷ places_from bytes (at + 1) xs else places_from bytes (at + 1) xs))
    by true e h = inl (places_from bytes (at + 1) xs, refl, h)
    by false e h = inr (e, h)

pub stand-none : (test : Arrived → Bool) (at : ℕ) (ps : List ℕ) → ps ≡ [] → StandAt test at [] ps
unfolding StandAt
stand-none test at ps e = e

-- one place more, where each is looked at
taken-one : (test : Arrived → Bool) (at : ℕ) (xs : List Arrived) (ps : List ℕ) (i n : ℕ) → i < length xs → n ≡ at + i
    → StandAt test at (take i xs) ps → StandAt test at (take (suc i) xs) (ps ++ (n ∷ []))
unfolding StandAt
taken-one test at [] ps i n lt is h = absurd (omega (arith, lt))
taken-one test at (x ∷ xs) ps zero n lt is e =
    let same : n ≡ at = omega (arith, is) in
    inl ([], ap (λ (l : List ℕ). l ++ (n ∷ [])) e ∙ ap (λ (m : ℕ). m ∷ []) same, refl)
taken-one test at (x ∷ xs) ps (suc i) n lt is (inl h) = inl (
  h.0 ++ (n ∷ []),
  ap (λ (l : List ℕ). l ++ (n ∷ [])) h.1,
  taken-one test (at + 1) xs h.0 i n (omega (arith, lt)) (omega (arith, is)) h.2,
)
taken-one test at (x ∷ xs) ps (suc i) n lt is (inr h) = inr (
  h.0,
  taken-one test (at + 1) xs ps i n (omega (arith, lt)) (omega (arith, is)) h.1,
)

pub stand-taken : (test : Arrived → Bool) (at i : ℕ) (xs : List Arrived) (ps : List ℕ) (n : ℕ) → i < length xs
    → n ≡ at + i
    → StandAt test at (take i xs) ps → StandAt test at (take (i + 1) xs) (ps ++ (n ∷ []))
stand-taken test at i xs ps n lt is h =
    let next : suc i ≡ i + 1 = omega arith in
    subst (λ (k : ℕ). StandAt test at (take k xs) (ps ++ (n ∷ []))) next (taken-one test at xs ps i n lt is h)

-- each place, read as a slice
pub each-slice : (known : KnownBytes) (xs : List Arrived) (each slice : List ℕ) → slice ≡ each → AreEach known xs each
    → AreEach known xs slice
each-slice known xs each slice e h test none = subst (λ (l : List ℕ). StandAt test 0 xs l) (sym e) (h test none)

-- ---- the next of these places

record IsNext (test : Arrived → Bool) (at : ℕ) (xs : List Arrived) (p : ℕ) (rest : List ℕ) : Type 0 where
  pub skipped : ℕ
  pub place : p ≡ at + skipped
  pub within : skipped < length xs
  pub others : AreOthers test (take skipped xs)
  pub behind : StandAt test (p + 1) (drop (suc skipped) xs) rest

next-of : (test : Arrived → Bool) (at : ℕ) (xs : List Arrived) (p : ℕ) (rest : List ℕ) → StandAt test at xs (p ∷ rest)
    → IsNext test at xs p rest
unfolding StandAt
next-of test at [] p rest e = absurd (cc)
next-of test at (a ∷ xs) p rest (inl h) =
    let e = h.1 in
    let same : at ≡ p = cc in
    let more : h.0 ≡ rest = cc in
    record {
      skipped = zero;
      place = omega (arith, same);
      within = omega arith;
      others = tt;
      behind = subst (λ (n : ℕ). StandAt test (n + 1) xs rest) same
          (subst (λ (l : List ℕ). StandAt test (at + 1) xs l) more h.2);
    }
next-of test at (a ∷ xs) p rest (inr h) =
    let k = next-of test (at + 1) xs p rest h.1 in
    record {
      skipped = suc k.skipped;
      place = (let e = k.place in omega (arith, e));
      within = (let w = k.within in omega (arith, w));
      others = (h.0, k.others);
      behind = k.behind;
    }

-- where the arrivals from a place on stand, the next is this one
pub record IsReached (test : Arrived → Bool) (xs : List Arrived) (at p : ℕ) (rest : List ℕ) : Type 0 where
  pub skipped : ℕ
  pub place : p ≡ at + skipped
  pub within : p < length xs
  pub others : AreOthers test (take skipped (drop at xs))
  pub behind : StandAt test (p + 1) (drop (p + 1) xs) rest

pub reached : (test : Arrived → Bool) (xs : List Arrived) (at p : ℕ) (rest ps : List ℕ) → ps ≡ p ∷ rest
    → StandAt test at (drop at xs) ps → IsReached test xs at p rest
reached test xs at p rest ps e h =
    let k = next-of test at (drop at xs) p rest (subst (λ (l : List ℕ). StandAt test at (drop at xs) l) e h) in
    let long = length-drop at xs in
    let place = k.place in
    let within = k.within in
    let on : at + suc k.skipped ≡ p + 1 = omega (arith, place) in
    record {
      skipped = k.skipped;
      place = place;
      within = omega (arith, long, place, within);
      others = k.others;
      behind = subst (λ (l : List Arrived). StandAt test (p + 1) l rest)
          (drop-drop (suc k.skipped) at xs ∙ ap (λ (n : ℕ). drop n xs) on) k.behind;
    }

-- of places that are gone through in turn
pub here : (test : Arrived → Bool) (xs : List Arrived) (at : ℕ) (ps : List ℕ) (i : ℕ) → i < length ps
    → StandAt test at (drop at xs) (drop i ps) → IsReached test xs at (get_or ps i 0) (drop (i + 1) ps)
here test xs at ps i lt h = reached test xs at (get_or ps i 0) (drop (i + 1) ps) (drop i ps) (drop_more ps i 0 lt) h

-- where none is left, the arrivals are others
pub none-left : (test : Arrived → Bool) (at : ℕ) (xs : List Arrived) → StandAt test at xs [] → AreOthers test xs
unfolding StandAt
none-left test at [] e = tt
none-left test at (a ∷ xs) (inl h) = let e = h.1 in absurd (cc)
none-left test at (a ∷ xs) (inr h) = (h.0, none-left test (at + 1) xs h.1)

-- ---- the places ascend

no-lower : (test : Arrived → Bool) (at : ℕ) (xs : List Arrived) (ps : List ℕ) (k d : ℕ) → StandAt test at xs ps
    → k < length ps
    → at ≤ get_or ps k d
unfolding StandAt
no-lower test at [] ps k d e lt = let none = ap (λ (l : List ℕ). length l) e in absurd (omega (arith, lt, none))
no-lower test at (a ∷ xs) ps zero d (inl h) lt =
    let e : get_or ps 0 d ≡ at = ap (λ (l : List ℕ). get_or l 0 d) h.1 in
    omega (arith, e)
no-lower test at (a ∷ xs) ps (suc k) d (inl h) lt =
    let size = ap (λ (l : List ℕ). length l) h.1 in
    let low = no-lower test (at + 1) xs h.0 k d h.2 (omega (arith, lt, size)) in
    let e : get_or ps (suc k) d ≡ get_or h.0 k d = ap (λ (l : List ℕ). get_or l (suc k) d) h.1 in
    omega (arith, low, e)
no-lower test at (a ∷ xs) ps zero d (inr h) lt =
    let low = no-lower test (at + 1) xs ps 0 d h.1 lt in
    omega (arith, low)
no-lower test at (a ∷ xs) ps (suc k) d (inr h) lt =
    let low = no-lower test (at + 1) xs ps (suc k) d h.1 lt in
    omega (arith, low)

ascends : (test : Arrived → Bool) (at : ℕ) (xs : List Arrived) (ps : List ℕ) → StandAt test at xs ps
    → IsNonDecreasingBy (λ (x : ℕ). x) ps
unfolding StandAt
ascends test at [] ps e i j d le lt = let none = ap (λ (l : List ℕ). length l) e in absurd (omega (arith, lt, none))
ascends test at (a ∷ xs) ps (inl h) zero zero d le lt = omega arith
ascends test at (a ∷ xs) ps (inl h) zero (suc j) d le lt =
    let size = ap (λ (l : List ℕ). length l) h.1 in
    let first : get_or ps 0 d ≡ at = ap (λ (l : List ℕ). get_or l 0 d) h.1 in
    let low = no-lower test (at + 1) xs h.0 j d h.2 (omega (arith, lt, size)) in
    let e : get_or ps (suc j) d ≡ get_or h.0 j d = ap (λ (l : List ℕ). get_or l (suc j) d) h.1 in
    omega (arith, first, low, e)
ascends test at (a ∷ xs) ps (inl h) (suc i) zero d le lt = absurd (omega (arith, le))
ascends test at (a ∷ xs) ps (inl h) (suc i) (suc j) d le lt =
    let size = ap (λ (l : List ℕ). length l) h.1 in
    let more = ascends test (at + 1) xs h.0 h.2 i j d (omega (arith, le)) (omega (arith, lt, size)) in
    let one : get_or ps (suc i) d ≡ get_or h.0 i d = ap (λ (l : List ℕ). get_or l (suc i) d) h.1 in
    let two : get_or ps (suc j) d ≡ get_or h.0 j d = ap (λ (l : List ℕ). get_or l (suc j) d) h.1 in
    omega (arith, more, one, two)
ascends test at (a ∷ xs) ps (inr h) i j d le lt = ascends test (at + 1) xs ps h.1 i j d le lt

-- ---- those from a place on, and those before one

-- the first so many of these are below a number, the others aren't
record IsCut (ps : List ℕ) (s least : ℕ) : Type 0 where
  pub within : s ≤ length ps
  pub below : (k : ℕ) → k < s → get_or ps k 0 < least
  pub above : (k : ℕ) → s ≤ k → k < length ps → least ≤ get_or ps k 0

cut-rest : (p : ℕ) (rest : List ℕ) (s least : ℕ) → IsCut (p ∷ rest) (suc s) least → IsCut rest s least
cut-rest p rest s least c = record {
  within = (let w = c.within in omega (arith, w));
  below = λ k lt. c.below (suc k) (omega (arith, lt));
  above = λ k le lt. c.above (suc k) (omega (arith, le)) (omega (arith, lt));
}

-- nothing is cut off where none is below
cut-none : (test : Arrived → Bool) (at : ℕ) (xs : List Arrived) (ps : List ℕ) (s : ℕ) → IsCut ps s at
    → StandAt test at xs ps
    → drop s ps ≡ ps
cut-none test at xs ps zero c h = refl
cut-none test at xs ps (suc s) c h =
    let w = c.within in
    let lt = c.below 0 (omega arith) in
    let low = no-lower test at xs ps 0 0 h (omega (arith, w)) in
    absurd (omega (arith, lt, low))

drop-nothing : (s : ℕ) (ps : List ℕ) → ps ≡ [] → drop s ps ≡ []
drop-nothing zero ps e = e
drop-nothing (suc s) [] e = refl
drop-nothing (suc s) (p ∷ ps) e = absurd (cc)

stand-cut : (test : Arrived → Bool) (n at : ℕ) (xs : List Arrived) (ps : List ℕ) (s least : ℕ) → least ≡ at + n
    → IsCut ps s least
    → StandAt test at xs ps → StandAt test least (drop n xs) (drop s ps)
unfolding StandAt
stand-cut test zero at xs ps s least is c h =
    let same : at ≡ least = omega (arith, is) in
    subst (λ (m : ℕ). StandAt test m xs (drop s ps)) same
    (subst (λ (l : List ℕ). StandAt test at xs l)
    (sym (cut-none test at xs ps s (subst (λ (m : ℕ). IsCut ps s m) (sym same) c) h)) h)
stand-cut test (suc n) at [] ps s least is c e = drop-nothing s ps e
stand-cut test (suc n) at (a ∷ xs) ps zero least is c (inl h) =
    let size = ap (λ (l : List ℕ). length l) h.1 in
    let first : get_or ps 0 0 ≡ at = ap (λ (l : List ℕ). get_or l 0 0) h.1 in
    let high = c.above 0 (omega arith) (omega (arith, size)) in
    absurd (omega (arith, is, first, high))
stand-cut test (suc n) at (a ∷ xs) ps (suc s) least is c (inl h) =
    subst (λ (l : List ℕ). StandAt test least (drop n xs) (drop (suc s) l)) (sym h.1)
    (stand-cut test n (at + 1) xs h.0 s least (omega (arith, is))
    (cut-rest at h.0 s least (subst (λ (l : List ℕ). IsCut l (suc s) least) h.1 c)) h.2)
stand-cut test (suc n) at (a ∷ xs) ps s least is c (inr h) =
    stand-cut test n (at + 1) xs ps s least (omega (arith, is)) c h.1

none-above : (test : Arrived → Bool) (at most : ℕ) (xs : List Arrived) (ps : List ℕ) (s : ℕ) → most ≤ at
    → IsCut ps s most
    → StandAt test at xs ps → take s ps ≡ []
none-above test at most xs ps zero le c h = refl
none-above test at most xs ps (suc s) le c h =
    let w = c.within in
    let lt = c.below 0 (omega arith) in
    let low = no-lower test at xs ps 0 0 h (omega (arith, w)) in
    absurd (omega (arith, lt, low, le))

take-of : (s : ℕ) (p : ℕ) (ps rest : List ℕ) → ps ≡ p ∷ rest → take (suc s) ps ≡ p ∷ take s rest
take-of s p ps rest e = ap (λ (l : List ℕ). take (suc s) l) e

take-nothing : (s : ℕ) (ps : List ℕ) → ps ≡ [] → take s ps ≡ []
take-nothing zero ps e = refl
take-nothing (suc s) [] e = refl
take-nothing (suc s) (p ∷ ps) e = absurd (cc)

stand-first : (test : Arrived → Bool) (n at : ℕ) (xs : List Arrived) (ps : List ℕ) (s most : ℕ) → most ≡ at + n
    → IsCut ps s most
    → StandAt test at xs ps → StandAt test at (take n xs) (take s ps)
unfolding StandAt
stand-first test zero at xs ps s most is c h = none-above test at most xs ps s (omega (arith, is)) c h
stand-first test (suc n) at [] ps s most is c e = take-nothing s ps e
stand-first test (suc n) at (a ∷ xs) ps zero most is c (inl h) =
    let size = ap (λ (l : List ℕ). length l) h.1 in
    let first : get_or ps 0 0 ≡ at = ap (λ (l : List ℕ). get_or l 0 0) h.1 in
    let high = c.above 0 (omega arith) (omega (arith, size)) in
    absurd (omega (arith, is, first, high))
stand-first test (suc n) at (a ∷ xs) ps (suc s) most is c (inl h) = inl (
  take s h.0,
  take-of s at ps h.0 h.1,
  stand-first test n (at + 1) xs h.0 s most (omega (arith, is))
      (cut-rest at h.0 s most (subst (λ (l : List ℕ). IsCut l (suc s) most) h.1 c)) h.2,
)
stand-first test (suc n) at (a ∷ xs) ps s most is c (inr h) =
    inr (h.0, stand-first test n (at + 1) xs ps s most (omega (arith, is)) c h.1)

pub parted : (test : Arrived → Bool) (xs : List Arrived) (ps : List ℕ) (least : ℕ) → StandAt test 0 xs ps
    → IsPartitionedBy (λ y. ltb y least) ps
parted test xs ps least h = IsPartitionedBy-ltb (λ (x : ℕ). x) ps least (ascends test 0 xs ps h)

pub stand-later : (test : Arrived → Bool) (xs : List Arrived) (ps : List ℕ) (s least : ℕ) → s ≤ length ps
    → IsPartitionPoint (λ y. ltb y least ≡ true) (λ y. ltb y least ≡ false) ps s
    → StandAt test 0 xs ps → StandAt test least (drop least xs) (drop s ps)
stand-later test xs ps s least within point h =
    let is : least ≡ 0 + least = omega arith in
    stand-cut test least 0 xs ps s least is (record {
      within = within;
      below = λ k lt. ltb-true (get_or ps k 0) least (point.0 k 0 (omega arith) lt);
      above = λ k le lt. ltb-false (get_or ps k 0) least (point.1 k 0 le lt);
    }) h

pub stand-before : (test : Arrived → Bool) (xs : List Arrived) (ps : List ℕ) (s most : ℕ) → s ≤ length ps
    → IsPartitionPoint (λ y. ltb y most ≡ true) (λ y. ltb y most ≡ false) ps s
    → StandAt test 0 xs ps → StandAt test 0 (take most xs) (take s ps)
stand-before test xs ps s most within point h =
    let is : most ≡ 0 + most = omega arith in
    stand-first test most 0 xs ps s most is (record {
      within = within;
      below = λ k lt. ltb-true (get_or ps k 0) most (point.0 k 0 (omega arith) lt);
      above = λ k le lt. ltb-false (get_or ps k 0) most (point.1 k 0 le lt);
    }) h

-- ---- of a narrower test

-- what passes this test passes the other
pub stand-less : (test other : Arrived → Bool) (at : ℕ) (xs : List Arrived) (ps : List ℕ)
    → ((a : Arrived) → test a ≡ false → other a ≡ false) → StandAt test at xs ps → StandAt other at xs ps
unfolding StandAt
stand-less test other at [] ps less e = e
stand-less test other at (a ∷ xs) ps less (inl h) = inl (h.0, h.1, stand-less test other (at + 1) xs h.0 less h.2)
stand-less test other at (a ∷ xs) ps less (inr h) = inr (less a h.0, stand-less test other (at + 1) xs ps less h.1)

-- where none of the first arrivals passes it
pub stand-behind : (test : Arrived → Bool) (n at : ℕ) (xs : List Arrived) (ps : List ℕ)
    → ((i : ℕ) (d : Arrived) → i < n → test (get_or xs i d) ≡ false) → StandAt test (at + n) (drop n xs) ps
    → StandAt test at xs ps
unfolding StandAt
stand-behind test zero at xs ps none h =
    let same : at + 0 ≡ at = omega arith in
    subst (λ (m : ℕ). StandAt test m xs ps) same h
stand-behind test (suc n) at [] ps none h = h
stand-behind test (suc n) at (a ∷ xs) ps none h =
    let on : at + suc n ≡ at + 1 + n = omega arith in
    inr (
      none 0 a (omega arith),
      stand-behind test n (at + 1) xs ps (λ i d lt. none (suc i) d (omega (arith, lt)))
          (subst (λ (m : ℕ). StandAt test m (drop n xs) ps) on h),
    )

-- where none of the last ones passes it
stand-nowhere : (test : Arrived → Bool) (at : ℕ) (xs : List Arrived) (ps : List ℕ) → ps ≡ []
    → ((i : ℕ) (d : Arrived) → i < length xs → test (get_or xs i d) ≡ false) → StandAt test at xs ps
unfolding StandAt
stand-nowhere test at [] ps e none = e
stand-nowhere test at (a ∷ xs) ps e none = inr (
  none 0 a (omega arith),
  stand-nowhere test (at + 1) xs ps e (λ i d lt. none (suc i) d (omega (arith, lt))),
)

pub stand-ahead : (test : Arrived → Bool) (n at : ℕ) (xs : List Arrived) (ps : List ℕ)
    → ((i : ℕ) (d : Arrived) → n ≤ i → i < length xs → test (get_or xs i d) ≡ false) → StandAt test at (take n xs) ps
    → StandAt test at xs ps
unfolding StandAt
stand-ahead test zero at xs ps none h =
    stand-nowhere test at xs ps h (λ i d lt. none i d (omega arith) lt)
stand-ahead test (suc n) at [] ps none h = h
stand-ahead test (suc n) at (a ∷ xs) ps none (inl h) = inl (
  h.0,
  h.1,
  stand-ahead test n (at + 1) xs h.0 (λ i d le lt. none (suc i) d (omega (arith, le)) (omega (arith, lt))) h.2,
)
stand-ahead test (suc n) at (a ∷ xs) ps none (inr h) = inr (
  h.0,
  stand-ahead test n (at + 1) xs ps (λ i d le lt. none (suc i) d (omega (arith, le)) (omega (arith, lt))) h.1,
)

-- ---- as the code keeps them

pub kept-none : {A : Type 0} (r : Option A) → ((x : A) → r ≡ Some x → ⊥) → (view : Option A → Option (Vec ℕ))
    → {o : Option (Vec ℕ)} → view None ≡ None → view r ≡ o → all_of o ≡ []
kept-none None not view is e = sym (ap (λ (o : Option (Vec ℕ)). all_of o) (sym is ∙ e))
kept-none (Some x) not view is e = absurd (not x refl)

pub kept-empty : (new : KeyPlaces) → new.by_key.entries ≡ [] → (key : List ℕ) → kept_at new key ≡ []
kept-empty new e key = ap (λ es. all_of (lookup (is_at (λ (k : Vec ℕ). slice_cmp nat_cmp key k.items)) es)) e

is-equal : (o : Ordering) → is_eq o ≡ true → o ≡ Equal
is-equal Less e = absurd (cc)
is-equal Equal e = refl
is-equal Greater e = absurd (cc)

module _ (old new : KeyPlaces) (key : List ℕ) (w : Vec ℕ) (place : ℕ)
    (items : w.items ≡ kept_at old key ++ (place ∷ []))
  where
    abbrev compare : List ℕ → Vec ℕ → Ordering
    compare by k = slice_cmp nat_cmp by k.items

    abbrev order : Vec ℕ → Vec ℕ → Ordering
    order x y = slice_cmp nat_cmp x.items y.items

    -- a key is found by equal bytes
    found-by : (by : List ℕ) (k : Vec ℕ) → is_at (compare by) k ≡ true → by ≡ k.items
    found-by by k e = exact_bytes by k.items (is-equal (compare by k) e)

    keeps-others : (other : List ℕ) → bytes_eq key other ≡ false
        → KeepsOthers (eq_by_cmp order) (is_at (compare key)) old.by_key.entries new.by_key.entries
        → kept_at new other ≡ kept_at old other
    unfolding KeepsOthers
    keeps-others other apart keep = ap (λ (o : Option (Vec ℕ)). all_of o) (keep (is_at (compare other))
        (λ x y e. ap (λ (l : List ℕ). is_eq (slice_cmp nat_cmp l y.items)) (found-by other x e))
        (λ k e. false_from_ne_true (is_at (compare other) k) (λ yes.
        let both : key ≡ other = found-by key k e ∙ sym (found-by other k yes) in
        let is = sym ((bytes_eq-Decides key other).1 both) ∙ apart in
        absurd cc)))

    pub kept-added : UpdatesBy order (compare key) old.by_key new.by_key (Some w) → (other : List ℕ)
        → kept_at new other ≡ (if bytes_eq key other then kept_at old other ++ (place ∷ []) else kept_at old other)
    kept-added u other = by (bytes_eq key other) refl
      where
        by : (b : Bool) → bytes_eq key other ≡ b
            → kept_at new other ≡ (if b then kept_at old other ++ (place ∷ []) else kept_at old other)
        by true e =
            let same = (bytes_eq-Decides key other).0 e in
            subst (λ (l : List ℕ). kept_at new l ≡ kept_at old l ++ (place ∷ [])) same
            (ap (λ (o : Option (Vec ℕ)). all_of o) u.1 ∙ items)
        by false e = keeps-others other e u.3
