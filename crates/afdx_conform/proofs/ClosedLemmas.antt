-- Which frames a closing closes, and what stands at a place of a list.
use Rattle.std.proofs.Common.{◌≡◌, ℕ, zero, suc, ◌+◌, ◌-◌, ◌<◌, ◌≤◌, ◌⊎◌, inl, inr, Bool, true, false, List, [], ◌∷◌, map, take, drop, get_or, length, refl, sym, ap, ◌∙◌, subst, arith}
use Rattle.std.proofs.lemmas.Bool.{lt-ltb, ltb-true, ltb-false, and_from}
use Rattle.std.proofs.lemmas.List.{get_or_default, get_or-take, get_or-drop, length-map, length-take-le, length-drop, take-map}
use Rattle.std.proofs.lemmas.List.Elements.{recursion_from_All}
use Rattle.std.specs.Prelude.{nat_lt, IsTrue, All, ◌↔◌, Result, Ok, Err, OnOk}
use Rattle.std.specs.List.{AllByRecursion}
use Rattle.afdx_conform.specs.HeldStates.{AreClosed}
use Rattle.afdx_conform.specs.Limits.{AreFrames, gone_of}
use Rattle.afdx_conform.specs.States.{are_behind}
use Rattle.afdx_conform.specs.Streams.{Gone}
use Rattle.afdx_conform.specs.declared.arrived.Arrived.{Arrived}
use Rattle.afdx_conform.specs.declared.limits.LeftFrame.{LeftFrame}

-- ---- a place

pub same-arrived : (xs : List Arrived) (i : ℕ) (a b : Arrived) → i < length xs → a ≡ get_or xs i a → b ≡ get_or xs i b
    → b ≡ a
same-arrived xs i a b lt p q = q ∙ get_or_default xs i b a lt ∙ sym p

pub some-arrived : (xs : List Arrived) (i : ℕ) → i < length xs → (a : Arrived) × (a ≡ get_or xs i a)
some-arrived [] i lt = absurd (omega (arith, lt))
some-arrived (x ∷ xs) zero lt = (x, refl)
some-arrived (x ∷ xs) (suc i) lt = some-arrived xs i (omega (arith, lt))

pub on-ok : {X E : Type 0} {P Q : Type 0} (r : Result X E) → (P → Q) → OnOk r P → OnOk r Q
on-ok (Ok x) f h = f h
on-ok (Err e) f h = h

-- ---- the frames up to a place

pub same-frame : (fs : List LeftFrame) (i : ℕ) (f g : LeftFrame) → i < length fs → f ≡ get_or fs i f → g ≡
    get_or fs i g → g ≡ f
same-frame fs i f g lt p q = q ∙ get_or_default fs i g f lt ∙ sym p

pub not-later : (time other : ℕ) (b : Bool) → IsTrue b ↔ (time < other) → b ≡ false → other ≤ time
not-later time other b told e = by (nat_lt time other) refl
  where
    by : (c : Bool) → nat_lt time other ≡ c → other ≤ time
    by true k = let yes : b ≡ true = told.1 (ltb-true time other k) in absurd (cc)
    by false k = ltb-false time other k

pub closed-more : (fs : List LeftFrame) (from place time : ℕ) (v : LeftFrame) → v ≡ get_or fs place v →
    place < length fs
    → v.time ≤ time
    → ((k : ℕ) (f : LeftFrame) → from ≤ k → k < place → f ≡ get_or fs k f → f.time ≤ time)
    → (k : ℕ) (f : LeftFrame) → from ≤ k → k < place + 1 → f ≡ get_or fs k f → f.time ≤ time
closed-more fs from place time v is lt le inv k f low less at = by (nat_lt k place) refl
  where
    by : (b : Bool) → nat_lt k place ≡ b → f.time ≤ time
    by true e = inv k f low (ltb-true k place e) at
    by false e =
        let high = ltb-false k place e in
        let here : k ≡ place = omega (arith, high, less) in
        subst (λ (g : LeftFrame). g.time ≤ time)
        (same-frame fs place f v lt (at ∙ ap (λ (n : ℕ). get_or fs n f) here) is) le

-- ---- which frames a closing closes

at-place : (fs : List LeftFrame) (k : ℕ) (d : LeftFrame) → k < length fs → get_or fs k d ≡ get_or fs k (get_or fs k d)
at-place fs k d lt = get_or_default fs k d (get_or fs k d) lt

-- where a guess is right, of frames that go by time
pub guessed : (fs : List LeftFrame) (from place time : ℕ) → from < place → place ≤ length fs
    → ((v : LeftFrame) → v ≡ get_or fs (place - 1) v → v.time ≤ time) → AreFrames fs
    → (k : ℕ) (f : LeftFrame) → k < place → f ≡ get_or fs k f → f.time ≤ time
guessed fs from place time lt inside last order k f less at =
    let before : place - 1 < length fs = omega (arith, lt, inside) in
    let v = get_or fs (place - 1) f in
    let is = at-place fs (place - 1) f before in
    let one = order k (place - 1) f v (omega (arith, less)) before at is in
    let two = last v is in
    omega (arith, one, two)

front-closed : (fs : List LeftFrame) (time to : ℕ) → to ≤ length fs
    → ((k : ℕ) (f : LeftFrame) → k < to → f ≡ get_or fs k f → f.time ≤ time) → All (λ f. f.time ≤ time) (take to fs)
front-closed fs time to within closed k d lt =
    let size = length-take-le to fs within in
    let less : k < to = omega (arith, lt, size) in
    let inside : k < length fs = omega (arith, less, within) in
    subst (λ (f : LeftFrame). f.time ≤ time) (sym (get_or-take to fs k d less))
    (closed k (get_or fs k d) less (at-place fs k d inside))

rest-behind : (fs : List LeftFrame) (time to : ℕ)
    → ((k : ℕ) (f : LeftFrame) → to ≤ k → k < length fs → f ≡ get_or fs k f → time < f.time)
    → All (λ f. time < f.time) (drop to fs)
rest-behind fs time to behind k d lt =
    let size = length-drop to fs in
    let inside : to + k < length fs = omega (arith, lt, size) in
    let low : to ≤ to + k = omega arith in
    subst (λ (f : LeftFrame). time < f.time) (sym (get_or-drop to fs k d))
    (behind (to + k) (get_or fs (to + k) d) low inside (at-place fs (to + k) d inside))

all-gone : (P : ℕ → Type 0) (fs : List LeftFrame) → AllByRecursion (λ (f : LeftFrame). P f.time) fs
    → AllByRecursion (λ (y : Gone). P y.time) (map gone_of fs)
all-gone P [] all = tt
all-gone P (f ∷ fs) all = (all.0, all-gone P fs all.1)

are-behind : (time : ℕ) (ys : List Gone) → AllByRecursion (λ (y : Gone). time < y.time) ys → are_behind time ys ≡ true
unfolding are_behind
are-behind time [] all = refl
are-behind time (y ∷ ys) all = and_from (nat_lt time y.time) (are_behind time ys) (lt-ltb time y.time all.0)
    (are-behind time ys all.1)

drop-gone : (fs : List LeftFrame) (n : ℕ) → drop n (map gone_of fs) ≡ map gone_of (drop n fs)
drop-gone fs zero = refl
drop-gone [] (suc n) = refl
drop-gone (f ∷ fs) (suc n) = drop-gone fs n

pub are-closed : (fs : List LeftFrame) (time to : ℕ) → to ≤ length fs
    → ((k : ℕ) (f : LeftFrame) → k < to → f ≡ get_or fs k f → f.time ≤ time)
    → ((k : ℕ) (f : LeftFrame) → to ≤ k → k < length fs → f ≡ get_or fs k f → time < f.time)
    → AreClosed time to (map gone_of fs)
are-closed fs time to within closed behind = record {
  within = (let n = length-map fs gone_of in omega (arith, n, within));
  closed = subst (λ (l : List Gone). AllByRecursion (λ y. y.time ≤ time) l) (sym (take-map gone_of to fs))
      (all-gone (λ t. t ≤ time) (take to fs) (recursion_from_All (λ (f : LeftFrame). f.time ≤ time) (take to fs)
      (front-closed fs time to within closed)));
  behind = subst (λ (l : List Gone). IsTrue (are_behind time l)) (sym (drop-gone fs to))
      (are-behind time (map gone_of (drop to fs)) (all-gone (λ t. time < t) (drop to fs)
      (recursion_from_All (λ (f : LeftFrame). time < f.time) (drop to fs) (rest-behind fs time to behind))));
}

-- those of the time of the frame at a place
pub closes : (fs : List LeftFrame) (place to : ℕ) (f : LeftFrame) → AreFrames fs → place < length fs → f ≡
    get_or fs place f
    → place + 1 ≤ to → to ≤ length fs
    → ((k : ℕ) (g : LeftFrame) → place + 1 ≤ k → k < to → g ≡ get_or fs k g → g.time ≤ f.time)
    → ((g : LeftFrame) → to < length fs → g ≡ get_or fs to g → f.time < g.time)
    → AreClosed f.time to (map gone_of fs)
closes fs place to f order lt is low high closed behind =
    are-closed fs f.time to high (λ k g less at. by-place k g less at (side k))
    (λ k g le l at. later k g le l at)
  where
    side : (k : ℕ) → (k ≤ place) ⊎ (place + 1 ≤ k)
    side k = by (nat_lt place k) refl
      where
        by : (b : Bool) → nat_lt place k ≡ b → (k ≤ place) ⊎ (place + 1 ≤ k)
        by true e = inr (let l = ltb-true place k e in omega (arith, l))
        by false e = inl (ltb-false place k e)

    by-place : (k : ℕ) (g : LeftFrame) → k < to → g ≡ get_or fs k g → (k ≤ place) ⊎ (place + 1 ≤ k) → g.time ≤ f.time
    by-place k g less at (inl le) = order k place g f le lt at is
    by-place k g less at (inr le) = closed k g le less at

    later : (k : ℕ) (g : LeftFrame) → to ≤ k → k < length fs → g ≡ get_or fs k g → f.time < g.time
    later k g le l at =
        let inside : to < length fs = omega (arith, le, l) in
        let first = get_or fs to g in
        let one = behind (get_or fs to g) inside (at-place fs to g inside) in
        let two = order to k (get_or fs to g) g le l (at-place fs to g inside) at in
        omega (arith, one, two)
