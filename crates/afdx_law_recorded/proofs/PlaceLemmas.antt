-- The frames of a side by their places: the newest stands last.
use Rattle.std.proofs.Common.{◌≡◌, ℕ, zero, suc, ◌+◌, ◌*◌, ◌-◌, ◌<◌, ◌≤◌, ◌⊎◌, inl, inr, Bool, true, false, List, [], ◌∷◌}
use Rattle.std.proofs.Common.{◌++◌, length, map, refl, sym, ap, ap₂, ◌∙◌, subst, arith}
use Rattle.std.proofs.Math.Nat.{mul_assoc}
use Rattle.std.specs.Prelude.{nat_eq, if◌then◌else◌, Option, Some, None}
use Rattle.std.specs.List.{AllByRecursion}
use Rattle.std.proofs.lemmas.Bool.{cases_lt, cond-true, cond-false, eq-eqb, eqb-true, leb-true, ne_eqb}
use Rattle.afdx_frame.specs.Regulation.{bag, jitter}
use Rattle.afdx_frame.specs.Sides.{is_side}
use Rattle.afdx_frame.specs.declared.link.Side.{Side}
use Rattle.afdx_frame.proofs.SideLemmas.{is_side-same}
use Rattle.afdx_police.specs.Rule.{regulation_of}
use Rattle.afdx_police.specs.Spacing.{AllKeepGaps, AreUpTo, HaveRoom, KeepsGaps}
use Rattle.afdx_police.proofs.SpacingLemmas.{room_is_gaps}
use Rattle.afdx_lawful.specs.Accepted.{ComeUpTo}
use Rattle.afdx_lawful.specs.Alone.{has_room, times_with_room}
use Rattle.afdx_lawful.specs.Flaws.{whole_of}
use Rattle.afdx_lawful.specs.Sources.{Came, Source, cost, fast, on_side, room}
use Rattle.afdx_lawful.proofs.AcceptedLemmas.{come_on}
use Rattle.afdx_lawful.proofs.CleanLemmas.{AreClean, whole_same}
use Rattle.afdx_law_recorded.proofs.PairLemmas.{as-long}
use Rattle.afdx_law_recorded.specs.Pairs.{AreInPairs, ArePair, ArePairsByPlace}
use Rattle.afdx_lawful.specs.Partners.{other}

-- ---- what stands at a place

unfoldable pub stands_at : {X : Type 0} → List X → ℕ → Option X
stands_at [] k = None
stands_at (x ∷ past) k = if nat_eq k (length past) then Some x else stands_at past k

pub newest-stands : {X : Type 0} (x : X) (past : List X) → stands_at (x ∷ past) (length past) ≡ Some x
unfolding stands_at
newest-stands x past =
    cond-true (nat_eq (length past) (length past)) (Some x) (stands_at past (length past))
    (eq-eqb (length past) (length past) refl)

pub older-stands : {X : Type 0} (x : X) (past : List X) (k : ℕ) → k < length past →
    stands_at (x ∷ past) k ≡ stands_at past k
unfolding stands_at
older-stands x past k less =
    cond-false (nat_eq k (length past)) (Some x) (stands_at past k)
    (ne_eqb k (length past) (λ e. omega (arith, e, less)))

longer : {X : Type 0} (later past : List X) (k : ℕ) → k < length past → k < length (later ++ past)
longer [] past k less = less
longer (x ∷ later) past k less = let more = longer later past k less in omega (arith, more)

-- behind the newest ones the others stand as before
pub stands-before : {X : Type 0} (later past : List X) (k : ℕ) → k < length past →
    stands_at (later ++ past) k ≡ stands_at past k
stands-before [] past k less = refl
stands-before (x ∷ later) past k less =
    older-stands x (later ++ past) k (longer later past k less) ∙ stands-before later past k less

-- either it is the newest, or it stands before it
pub record IsNewest {X : Type 0} (x : X) (past : List X) (k : ℕ) (y : X) : Type 0 where
  pub last : k ≡ length past
  pub same : x ≡ y

pub record IsOlder {X : Type 0} (past : List X) (k : ℕ) (y : X) : Type 0 where
  pub stands : stands_at past k ≡ Some y

pub stands-cases : {X : Type 0} (x : X) (past : List X) (k : ℕ) (y : X) → stands_at (x ∷ past) k ≡ Some y →
    IsNewest x past k y ⊎ IsOlder past k y
unfolding stands_at
stands-cases x past k y h = by (nat_eq k (length past)) refl h
  where
    by : (b : Bool) → nat_eq k (length past) ≡ b → (if b then Some x else stands_at past k) ≡ Some y →
        IsNewest x past k y ⊎ IsOlder past k y
    by true e s = inl (record { last = eqb-true k (length past) e; same = cc s })
    by false e s = inr (record { stands = s })

pub stands-within : {X : Type 0} (xs : List X) (k : ℕ) (y : X) → stands_at xs k ≡ Some y → k < length xs
unfolding stands_at
stands-within [] k y h = absurd (cc h)
stands-within (x ∷ past) k y h = by (stands-cases x past k y h) (λ e. stands-within past k y e)
  where
    by : IsNewest x past k y ⊎ IsOlder past k y → (stands_at past k ≡ Some y → k < length past) → k < length (x ∷ past)
    by (inl newest) more = omega (arith, newest.last)
    by (inr older) more = let less = more older.stands in omega (arith, less)

pub record Stands {X : Type 0} (xs : List X) (k : ℕ) : Type 0 where
  pub it : X
  pub there : stands_at xs k ≡ Some it

pub some-stands : {X : Type 0} (xs : List X) (k : ℕ) → k < length xs → Stands xs k
some-stands [] k less = absurd (omega (arith, less))
some-stands (x ∷ past) k less = by (cases_lt k (length past)) (λ h. some-stands past k h)
  where
    by : (k < length past) ⊎ (length past ≤ k) → (k < length past → Stands past k) → Stands (x ∷ past) k
    by (inl before) more = let s = more before in record { it = s.it; there = older-stands x past k before ∙ s.there }
    by (inr last) more =
        let here : k ≡ length past = omega (arith, less, last) in
        record { it = x; there = ap (stands_at (x ∷ past)) here ∙ newest-stands x past }

-- what holds of the newest ones holds of each that stands behind so many others
pub ahead-at : {X : Type 0} (P : X → Type 0) (ahead before : List X) → AllByRecursion P ahead → (k : ℕ) (x : X) →
    stands_at (ahead ++ before) k ≡ Some x → length before ≤ k → P x
ahead-at P [] before h k x there late =
    absurd (let less = stands-within before k x there in omega (arith, less, late))
ahead-at P (y ∷ ahead) before h k x there late =
    by (stands-cases y (ahead ++ before) k x there) (λ e. ahead-at P ahead before h.1 k x e late)
  where
    by : IsNewest y (ahead ++ before) k x ⊎ IsOlder (ahead ++ before) k x →
        (stands_at (ahead ++ before) k ≡ Some x → P x) → P x
    by (inl newest) more = subst P newest.same h.0
    by (inr older) more = more older.stands

pub one-stands : {X : Type 0} (xs : List X) (k : ℕ) (x y : X) → stands_at xs k ≡ Some x →
    stands_at xs k ≡ Some y → x ≡ y
one-stands xs k x y h e = cc (h, e)

-- ---- gaps

abbrev times : List Came → List ℕ
times ys = map (λ x. x.time) ys

record IsRoomy (s : Source) (ys : List Came) : Type 0 where
  same : times_with_room s ys ≡ times ys
  roomy : HaveRoom (cost s) (fast s) (room s) (times ys)

none-roomy : (s : Source) → IsRoomy s []
unfolding times_with_room
none-roomy s = record { same = refl; roomy = tt }

one-roomier : (s : Source) (ys : List Came) (x : Came) → has_room s (times_with_room s ys) x.time ≡ true →
    IsRoomy s ys → IsRoomy s (x ∷ ys)
unfolding times_with_room
one-roomier s ys x fits past = record {
  same = cond-true (has_room s (times_with_room s ys) x.time) (x.time ∷ times_with_room s ys) (times_with_room s ys)
      fits
      ∙ ap (λ l. x.time ∷ l) past.same;
  roomy = (
    leb-true _ _ (subst (λ (l : List ℕ). has_room s l x.time ≡ true) past.same fits),
    past.roomy,
  );
}

roomy-on : (s : Source) (side : Side) (xs : List Came) → AreClean s xs → IsRoomy s (on_side side xs)
unfolding AreClean
roomy-on s side [] h = none-roomy s
roomy-on s side (x ∷ past) h = by (is_side side x.side) has (roomy-on s side past h.1)
  where
    has : is_side side x.side ≡ true → has_room s (times_with_room s (on_side side past)) x.time ≡ true
    has e =
        let same : on_side x.side (whole_of past) ≡ on_side side past =
        ap (λ (t : Side). on_side t (whole_of past)) (sym (is_side-same side x.side e))
        ∙ ap (on_side side) (whole_same s past h.1) in
        subst (λ (l : List Came). has_room s (times_with_room s l) x.time ≡ true) same h.0.roomy

    by : (b : Bool) → (b ≡ true → has_room s (times_with_room s (on_side side past)) x.time ≡ true) →
        IsRoomy s (on_side side past) → IsRoomy s (if b then x ∷ on_side side past else on_side side past)
    by true fits before = one-roomier s (on_side side past) x (fits refl) before
    by false fits before = before

-- what stands at a place came no later than this
stands-by : (t : ℕ) (ys : List Came) (k : ℕ) (y : Came) → AreUpTo t (times ys) → stands_at ys k ≡ Some y → y.time ≤ t
unfolding stands_at
stands-by t [] k y up h = absurd (cc h)
stands-by t (x ∷ past) k y up h = by (stands-cases x past k y h) (λ e. stands-by x.time past k y up.1 e)
  where
    by : IsNewest x past k y ⊎ IsOlder past k y → (stands_at past k ≡ Some y → y.time ≤ x.time) → y.time ≤ t
    by (inl newest) more = let e : x.time ≡ y.time = ap (λ (w : Came). w.time) newest.same in omega (arith, e, up.0)
    by (inr older) more = let le = more older.stands in omega (arith, le, up.0)

later-is-later : (t : ℕ) (ys : List Came) (k d : ℕ) (y z : Came) → AreUpTo t (times ys) → stands_at ys k ≡ Some y →
    stands_at ys (k + suc d) ≡ Some z → y.time ≤ z.time
unfolding stands_at
later-is-later t [] k d y z up h e = absurd (cc h)
later-is-later t (x ∷ past) k d y z up h e =
    by (stands-cases x past (k + suc d) z e) (stands-cases x past k y h)
    (λ h2 e2. later-is-later x.time past k d y z up.1 h2 e2)
  where
    by : IsNewest x past (k + suc d) z ⊎ IsOlder past (k + suc d) z → IsNewest x past k y ⊎ IsOlder past k y →
        (stands_at past k ≡ Some y → stands_at past (k + suc d) ≡ Some z → y.time ≤ z.time) → y.time ≤ z.time
    by (inl last) (inl first) more = absurd (omega (arith, last.last, first.last))
    by (inl last) (inr older) more =
        let le = stands-by x.time past k y up.1 older.stands in
        let same : x.time ≡ z.time = ap (λ (w : Came). w.time) last.same in
        omega (arith, le, same)
    by (inr later) (inl first) more =
        absurd (let less = stands-within past (k + suc d) z later.stands in omega (arith, less, first.last))
    by (inr later) (inr older) more = more older.stands later.stands

zero-plus : (m : ℕ) → 0 + m ≡ m
zero-plus m = omega arith

module _ (s : Source) where
  -- so many gaps stand between a time and the frame at a place, `n` of them behind these
  gaps-behind : (n t : ℕ) (ys : List Came) (k d : ℕ) (y : Came) →
      KeepsGaps (cost s) (fast s) (room s) n t (times ys) → stands_at ys k ≡ Some y → k + suc d ≡ length ys →
      cost s * (n + suc d) ≤ room s + fast s * (t - y.time)
  unfolding stands_at
  gaps-behind n t [] k d y keeps h place = absurd (cc h)
  gaps-behind n t (x ∷ past) k d y keeps h place =
      by (stands-cases x past k y h) d place (λ e h2 p. gaps-behind (n + 1) t past k e y keeps.1 h2 p)
    where
      by : IsNewest x past k y ⊎ IsOlder past k y → (d : ℕ) → k + suc d ≡ length (x ∷ past) →
          ((e : ℕ) → stands_at past k ≡ Some y → k + suc e ≡ length past →
          cost s * (n + 1 + suc e) ≤ room s + fast s * (t - y.time)) →
          cost s * (n + suc d) ≤ room s + fast s * (t - y.time)
      by (inl newest) d place more =
          let none : d ≡ 0 = omega (arith, place, newest.last) in
          subst (λ (w : Came). cost s * (n + suc d) ≤ room s + fast s * (t - w.time)) newest.same
          (subst (λ (e : ℕ). cost s * (n + suc e) ≤ room s + fast s * (t - x.time)) (sym none) keeps.0)
      by (inr older) zero place more =
          absurd (let less = stands-within past k y older.stands in omega (arith, less, place))
      by (inr older) (suc e) place more =
          let rest = more e older.stands (omega (arith, place)) in
          let same : n + 1 + suc e ≡ n + suc (suc e) = omega arith in
          subst (λ (m : ℕ). cost s * m ≤ room s + fast s * (t - y.time)) same rest

  gaps-between : (ys : List Came) (k d : ℕ) (y z : Came) → AllKeepGaps (cost s) (fast s) (room s) (times ys) →
      stands_at ys k ≡ Some y → stands_at ys (k + suc d) ≡ Some z →
      cost s * suc d ≤ room s + fast s * (z.time - y.time)
  unfolding stands_at
  gaps-between [] k d y z keep h e = absurd (cc h)
  gaps-between (x ∷ past) k d y z keep h e =
      by (stands-cases x past (k + suc d) z e) (stands-cases x past k y h)
      (λ h2 e2. gaps-between past k d y z keep.1 h2 e2)
    where
      by : IsNewest x past (k + suc d) z ⊎ IsOlder past (k + suc d) z → IsNewest x past k y ⊎ IsOlder past k y →
          (stands_at past k ≡ Some y → stands_at past (k + suc d) ≡ Some z →
          cost s * suc d ≤ room s + fast s * (z.time - y.time)) →
          cost s * suc d ≤ room s + fast s * (z.time - y.time)
      by (inl last) (inl first) more = absurd (omega (arith, last.last, first.last))
      by (inl last) (inr older) more =
          let behind = gaps-behind 0 x.time past k d y keep.0 older.stands last.last in
          subst (λ (w : Came). cost s * suc d ≤ room s + fast s * (w.time - y.time)) last.same
          (subst (λ (m : ℕ). cost s * m ≤ room s + fast s * (x.time - y.time)) (zero-plus (suc d)) behind)
      by (inr later) (inl first) more =
          absurd (let less = stands-within past (k + suc d) z later.stands in omega (arith, less, first.last))
      by (inr later) (inr older) more = more older.stands later.stands

-- over numbers: exact stamps and clocks
exact-gap : (b j m t f d k : ℕ) → d ≡ 0 → k ≡ 0 → f ≤ t →
    1000000 * b * m ≤ 1000000 * j + (1000000 + d) * (k + k) + (1000000 + d) * (t - f) → f + b * m ≤ t + j
exact-gap b j m t f d k hd hk low h =
    let slip : (1000000 + d) * (k + k) ≡ 0 = ap₂ (λ (d k : ℕ). (1000000 + d) * (k + k)) hd hk in
    let fall : (1000000 + d) * (t - f) ≡ 1000000 * (t - f) = ap (λ (d : ℕ). (1000000 + d) * (t - f)) hd in
    let own : 1000000 * b * m ≡ 1000000 * (b * m) = mul_assoc 1000000 b m in
    omega (arith, own, slip, fall, low, h)

pub spaced_on : (s : Source) (slack : s.by.slack ≡ 0) (drift : s.by.drift ≡ 0) (side : Side) (xs : List Came) →
    AreClean s xs → ComeUpTo s.until xs → (k d : ℕ) (y z : Came) → stands_at (on_side side xs) k ≡ Some y →
    stands_at (on_side side xs) (k + suc d) ≡ Some z →
    y.time + bag (regulation_of s.rule) * suc d ≤ z.time + jitter (regulation_of s.rule)
spaced_on s slack drift side xs clean up k d y z here there =
    let ys : List Came = on_side side xs in
    let on : AreUpTo s.until (times ys) = come_on s side s.until xs up in
    let keep : AllKeepGaps (cost s) (fast s) (room s) (times ys) =
    (room_is_gaps (cost s) (fast s) (room s) s.until (times ys) on).0 (roomy-on s side xs clean).roomy in
    let gap = gaps-between s ys k d y z keep here there in
    let order : y.time ≤ z.time = later-is-later s.until ys k d y z on here there in
    exact-gap (bag (regulation_of s.rule)) (jitter (regulation_of s.rule)) (suc d) z.time y.time s.by.drift s.by.slack
    drift slack order gap

-- ---- pairs

place-pairs : (s : Source) (xs ys : List Came) → ArePairsByPlace s xs ys → (k : ℕ) (x y : Came) →
    stands_at xs k ≡ Some x → stands_at ys k ≡ Some y → ArePair s x y
unfolding stands_at
place-pairs s [] ys pairs k x y h e = absurd (cc h)
place-pairs s (x0 ∷ xs) [] pairs k x y h e = absurd (cc e)
place-pairs s (x0 ∷ xs) (y0 ∷ ys) pairs k x y h e =
    by (stands-cases x0 xs k x h) (stands-cases y0 ys k y e) (λ h2 e2. place-pairs s xs ys pairs.1 k x y h2 e2)
  where
    same : length xs ≡ length ys
    same = as-long s xs ys pairs.1

    by : IsNewest x0 xs k x ⊎ IsOlder xs k x → IsNewest y0 ys k y ⊎ IsOlder ys k y →
        (stands_at xs k ≡ Some x → stands_at ys k ≡ Some y → ArePair s x y) → ArePair s x y
    by (inl a) (inl b) more =
        subst (λ (v : Came). ArePair s v y) a.same (subst (λ (w : Came). ArePair s x0 w) b.same pairs.0)
    by (inl a) (inr b) more = absurd (let less = stands-within ys k y b.stands in omega (arith, less, a.last, same))
    by (inr a) (inl b) more = absurd (let less = stands-within xs k x a.stands in omega (arith, less, b.last, same))
    by (inr a) (inr b) more = more a.stands b.stands

-- the frames of one place on a side that has come as far and on the other are a pair
pub further-pairs : (s : Source) (xs : List Came) (in_pairs : AreInPairs s xs) (k : ℕ) (x y : Came) →
    stands_at (on_side in_pairs.further xs) k ≡ Some x →
    stands_at (on_side (other in_pairs.further) xs) k ≡ Some y → ArePair s x y
further-pairs s xs in_pairs k x y here there =
    let less : k < length in_pairs.paired =
    (let within = stands-within (on_side (other in_pairs.further) xs) k y there in
    let long = as-long s in_pairs.paired (on_side (other in_pairs.further) xs) in_pairs.pairs in
    omega (arith, within, long)) in
    place-pairs s in_pairs.paired (on_side (other in_pairs.further) xs) in_pairs.pairs k x y
    (sym (stands-before in_pairs.ahead in_pairs.paired k less)
    ∙ ap (λ (l : List Came). stands_at l k) (sym in_pairs.splits) ∙ here)
    there
