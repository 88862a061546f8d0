-- Numbers that are handed on in order: what one more does, and what all of them are.
use Rattle.std.proofs.Common.{◌≡◌, ◌<◌, ◌≤◌, ◌+◌, ◌-◌, min, ℕ, [], ◌∷◌, ◌++◌, length, take, drop}
use Rattle.std.proofs.Common.{refl, ap, sym, ◌∙◌, subst}
use Rattle.std.proofs.Common.{Bool, true, false, nat_lt, if◌then◌else◌, Option, Some, None, arith}
use Rattle.std.proofs.Common.{append_assoc, take-append-drop, length-append, length-drop, length-take}
use Rattle.std.proofs.lemmas.Bool.{cond_both, ltb-false, ltb-true}
use Rattle.std.proofs.lemmas.List.{drop_all}
use Rattle.afdx_input_sources.specs.Engine.{Item}
use Rattle.afdx_input_sources.specs.declared.number.Number.{Number}
use Rattle.afdx_input_sources.specs.declared.number.Number.TheVariants.{Arrival, Skipped}
use Rattle.afdx_input_sources.specs.Ordering.{Forward, all_handed, arrivals_only, forward, forward_next, goes_back, handed_on, hands_on}
use Rattle.afdx_input_sources.specs.Ordering.{in_order, later_among, moment_of, put_among}
use Rattle.afdx_input_sources.specs.Sequences.{Numbers, is_arrival, latest_of, moment_or}
use Rattle.afdx_input_sources.proofs.SortingLemmas.{Falls, first_moment, is-behind, is-few, is-full, later-order}
use Rattle.afdx_input_sources.proofs.SortingLemmas.{length-put, drop-falls, order-falls, take-falls}

-- no arrival among these goes back too far
abbrev pub Fits : (most : ℕ) → Numbers → Type 0
Fits most past = forward most past ≡ record { numbers = past; back = None }

-- ---- up to one that goes back

module _ (most : ℕ) where
  -- those before it fit, and it doesn't go back
  pub record FitsOne (x : Item Number) (past : Numbers) : Type 0 where
    pub before : Fits most past
    pub goes : goes_back most x past ≡ false

  by-goes : (x : Item Number) (past numbers : Numbers) (t : Bool) → goes_back most x numbers ≡ t
      → ◌≡◌ {A = Forward} (if t then record { numbers = numbers; back = Some x.number }
      else record { numbers = x ∷ numbers; back = None }) (record { numbers = x ∷ past; back = None })
      → (numbers ≡ past) × (goes_back most x numbers ≡ false)
  by-goes x past numbers true is e = let f = ap (λ (t : Forward). t.back) e in absurd (cc)
  by-goes x past numbers false is e = let f = ap (λ (t : Forward). t.numbers) e in (cc, is)

  by-back : (x : Item Number) (past numbers : Numbers) (back : Option ℕ)
      → forward most past ≡ record { numbers = numbers; back = back }
      → forward_next most x numbers back ≡ record { numbers = x ∷ past; back = None } → FitsOne x past
  by-back x past numbers (Some n) is e = let f = ap (λ (t : Forward). t.back) e in absurd (cc)
  by-back x past numbers None is e =
      let h = by-goes x past numbers (goes_back most x numbers) refl e in record {
        before = is ∙ ap (λ (l : Numbers). record { numbers = l; back = None }) h.0;
        goes = subst (λ (l : Numbers). goes_back most x l ≡ false) h.0 h.1;
      }

  pub fits-one : (x : Item Number) (past : Numbers) → Fits most (x ∷ past) → FitsOne x past
  unfolding forward
  fits-one x past e = by-back x past (forward most past).numbers (forward most past).back refl e

  pub fits-before : (x : Item Number) (past : Numbers) → Fits most (x ∷ past) → Fits most past
  fits-before x past e = (fits-one x past e).before

  pub fits-goes : (x : Item Number) (past : Numbers) → Fits most (x ∷ past) → goes_back most x past ≡ false
  fits-goes x past e = (fits-one x past e).goes

  pub fits-more : (x : Item Number) (past : Numbers) → Fits most past → goes_back most x past ≡ false
      → Fits most (x ∷ past)
  unfolding forward
  fits-more x past e goes = rw (e, goes) refl

  -- one that goes back ends them
  back-one : (x : Item Number) (past : Numbers) → Fits most past → goes_back most x past ≡ true
      → forward most (x ∷ past) ≡ record { numbers = past; back = Some x.number }
  unfolding forward
  back-one x past e goes = rw (e, goes) refl

  pub forward-back : (x : Item Number) (past : Numbers) → Fits most past → goes_back most x past ≡ true
      → (later : Numbers) → forward most (later ++ x ∷ past) ≡ record { numbers = past; back = Some x.number }
  unfolding forward
  forward-back x past e goes [] = back-one x past e goes
  forward-back x past e goes (z ∷ later) = rw (forward-back x past e goes later) refl

  by-next : (x : Item Number) (numbers : Numbers) (back : Option ℕ)
      → Fits most numbers → Fits most (forward_next most x numbers back).numbers
  by-next x numbers (Some n) e = e
  by-next x numbers None e =
      cond_both (goes_back most x numbers) (record { numbers = numbers; back = Some x.number })
      (record { numbers = x ∷ numbers; back = None }) (λ (f : Forward). Fits most f.numbers)
      (λ is. e) (λ is. fits-more x numbers e is)

  pub forward-fits : (xs : Numbers) → Fits most (forward most xs).numbers
  unfolding forward
  forward-fits [] = refl
  forward-fits (x ∷ xs) = by-next x (forward most xs).numbers (forward most xs).back (forward-fits xs)

  -- those of more begin with these
  by-later : (x : Item Number) (past numbers : Numbers) (back : Option ℕ) → ((l : Numbers) × (numbers ≡ l ++ past))
      → (l : Numbers) × ((forward_next most x numbers back).numbers ≡ l ++ past)
  by-later x past numbers (Some n) h = h
  by-later x past numbers None h =
      cond_both (goes_back most x numbers) (record { numbers = numbers; back = Some x.number })
      (record { numbers = x ∷ numbers; back = None }) (λ (f : Forward). (l : Numbers) × (f.numbers ≡ l ++ past))
      (λ is. h) (λ is. (x ∷ h.0, ap (λ (l : Numbers). x ∷ l) h.1))

  pub forward-extends : (past : Numbers) → Fits most past → (later : Numbers)
      → (l : Numbers) × ((forward most (later ++ past)).numbers ≡ l ++ past)
  unfolding forward
  forward-extends past e [] = ([], ap (λ (f : Forward). f.numbers) e)
  forward-extends past e (x ∷ later) =
      let all = forward most (later ++ past) in
      by-later x past all.numbers all.back (forward-extends past e later)

  pub handed-extends : (past later : Numbers)
      → (l : Numbers) × (handed_on most (later ++ past) ≡ l ++ handed_on most past)
  unfolding handed_on
  handed-extends past [] = ([], refl)
  handed-extends past (x ∷ later) =
      let h = handed-extends past later in
      let more = hands_on most x (in_order (x ∷ later ++ past)) in
      (more ++ h.0, ap (λ (l : Numbers). more ++ l) h.1 ∙ sym (append_assoc more h.0 (handed_on most past)))

  -- what is handed on by now stays
  pub known-first : (past : Numbers) → Fits most past → (later : Numbers)
      → (l : Numbers) × (all_handed most (forward most (later ++ past)).numbers ≡ l ++ handed_on most past)
  known-first past e later =
      let all = (forward most (later ++ past)).numbers in
      let f = forward-extends past e later in
      let h = handed-extends past f.0 in
      let held = take most (in_order all) in (
        held ++ h.0,
        ap (λ (l : Numbers). held ++ handed_on most l) f.1 ∙ ap (λ (l : Numbers). held ++ l) h.1
            ∙ sym (append_assoc held h.0 (handed_on most past)),
      )

  -- ---- one more

  pub skipped-handed : (x : Item Number) (past : Numbers) → is_arrival x.head ≡ false
      → handed_on most (x ∷ past) ≡ x ∷ handed_on most past
  unfolding handed_on
  skipped-handed x past is = rw is refl

  handed-arrival : (x : Item Number) (past : Numbers) → is_arrival x.head ≡ true
      → handed_on most (x ∷ past) ≡ take 1 (drop most (put_among x (in_order past))) ++ handed_on most past
  unfolding handed_on in_order
  handed-arrival x past is = rw is refl

pub skipped-order : (x : Item Number) (past : Numbers) → is_arrival x.head ≡ false → in_order (x ∷ past) ≡ in_order past
unfolding in_order
skipped-order x past is = rw is refl

pub arrival-order : (x : Item Number) (past : Numbers) → is_arrival x.head ≡ true
    → in_order (x ∷ past) ≡ put_among x (in_order past)
unfolding in_order
arrival-order x past is = rw is refl

-- an arrival that doesn't go back has at most so many that are later
pub few-later : (most : ℕ) (x : Item Number) (past : Numbers) → is_arrival x.head ≡ true
    → goes_back most x past ≡ false → later_among x (in_order past) ≤ most
few-later most x past is goes =
    ltb-false most (later_among x (in_order past))
    (ap (nat_lt most) (sym (later-order x past)) ∙ sym (rw is refl) ∙ goes)

-- it is held with the others
pub held-more : (most : ℕ) (x : Item Number) (past : Numbers) → is_arrival x.head ≡ true
    → length (take most (in_order past)) + 1 ≤ most
    → (handed_on most (x ∷ past) ≡ handed_on most past)
    × (take most (in_order (x ∷ past)) ≡ put_among x (take most (in_order past)))
held-more most x past is room =
    let few = is-few most x (in_order past) room in (
      handed-arrival most x past is ∙ ap (λ (l : Numbers). take 1 l ++ handed_on most past) few.none_behind,
      ap (take most) (arrival-order x past is) ∙ few.first,
    )

-- or the first of them is handed on
pub held-full : (most : ℕ) (x : Item Number) (past : Numbers) → is_arrival x.head ≡ true
    → goes_back most x past ≡ false → most < length (take most (in_order past)) + 1
    → (y : Item Number)
    × (put_among x (take most (in_order past)) ≡ take most (in_order (x ∷ past)) ++ y ∷ [])
    × (handed_on most (x ∷ past) ≡ y ∷ handed_on most past)
held-full most x past is goes none =
    let full = is-full most x (in_order past) (order-falls past) (few-later most x past is goes) none in (
      full.y,
      full.first ∙ ap (λ (l : Numbers). take most l ++ full.y ∷ []) (sym (arrival-order x past is)),
      handed-arrival most x past is ∙ ap (λ (l : Numbers). take 1 l ++ handed_on most past) full.behind,
    )

-- ---- the arrivals among them

only-one : (x : Item Number) (past : Numbers) → is_arrival x.head ≡ true
    → arrivals_only (x ∷ past) ≡ x ∷ arrivals_only past
unfolding arrivals_only
only-one x past is = rw is refl

only-skipped : (x : Item Number) (past : Numbers) → is_arrival x.head ≡ false
    → arrivals_only (x ∷ past) ≡ arrivals_only past
unfolding arrivals_only
only-skipped x past is = rw is refl

only-append : (s past : Numbers) → Falls s → arrivals_only (s ++ past) ≡ s ++ arrivals_only past
unfolding arrivals_only
only-append [] past f = refl
only-append (y ∷ s) past f =
    only-one y (s ++ past) f.0 ∙ ap (λ (l : Numbers). y ∷ l) (only-append s past f.2)

-- those handed on are all but the last ones in order
only-more : (most : ℕ) (x : Item Number) (past : Numbers) (t : Bool) → is_arrival x.head ≡ t
    → goes_back most x past ≡ false → arrivals_only (handed_on most past) ≡ drop most (in_order past)
    → arrivals_only (handed_on most (x ∷ past)) ≡ drop most (in_order (x ∷ past))
only-more most x past false is goes e =
    ap arrivals_only (skipped-handed most x past is) ∙ only-skipped x (handed_on most past) is ∙ e
    ∙ ap (drop most) (sym (skipped-order x past is))
only-more most x past true is goes e = by (nat_lt most (length (take most (in_order past)) + 1)) refl
  where
    by : (t : Bool) → nat_lt most (length (take most (in_order past)) + 1) ≡ t
        → arrivals_only (handed_on most (x ∷ past)) ≡ drop most (in_order (x ∷ past))
    by true k =
        let full = is-full most x (in_order past) (order-falls past) (few-later most x past is goes)
        (ltb-true most (length (take most (in_order past)) + 1) k) in
        let behind = ap (drop most) (arrival-order x past is) ∙ full.behind in
        let falls = subst Falls full.behind
        (subst (λ (l : Numbers). Falls (drop most l)) (arrival-order x past is)
        (drop-falls most (in_order (x ∷ past)) (order-falls (x ∷ past)))) in
        ap arrivals_only (handed-arrival most x past is
        ∙ ap (λ (l : Numbers). take 1 l ++ handed_on most past) full.behind)
        ∙ only-one full.y (handed_on most past) falls.0
        ∙ ap (λ (l : Numbers). full.y ∷ l) e ∙ sym behind
    by false k =
        let few = is-few most x (in_order past) (ltb-false most (length (take most (in_order past)) + 1) k) in
        ap arrivals_only (handed-arrival most x past is
        ∙ ap (λ (l : Numbers). take 1 l ++ handed_on most past) few.none_behind)
        ∙ e ∙ few.none_before ∙ sym (ap (drop most) (arrival-order x past is) ∙ few.none_behind)

pub only-handed : (most : ℕ) (past : Numbers) → Fits most past
    → arrivals_only (handed_on most past) ≡ drop most (in_order past)
unfolding handed_on in_order arrivals_only
only-handed most [] e = sym (drop_all most [] (omega arith))
only-handed most (x ∷ past) e =
    only-more most x past (is_arrival x.head) refl (fits-goes most x past e)
    (only-handed most past (fits-before most x past e))

pub arrivals-in-order : (most : ℕ) (past : Numbers) → Fits most past
    → arrivals_only (all_handed most past) ≡ in_order past
arrivals-in-order most past e =
    only-append (take most (in_order past)) (handed_on most past)
    (take-falls most (in_order past) (order-falls past))
    ∙ ap (λ (l : Numbers). take most (in_order past) ++ l) (only-handed most past e)
    ∙ take-append-drop most (in_order past)

-- ---- the latest of them

pub moment-same : (n : Number) (a b : ℕ) → is_arrival n ≡ true → moment_or n a ≡ moment_or n b
moment-same (Arrival found) a b is = refl
moment-same (Skipped reason) a b is = absurd (cc)

pub moment-none : (n : Number) (a : ℕ) → is_arrival n ≡ false → moment_or n a ≡ a
moment-none (Arrival found) a is = absurd (cc)
moment-none (Skipped reason) a is = refl

pub latest-only : (past : Numbers) → latest_of past ≡ first_moment (arrivals_only past)
unfolding latest_of arrivals_only
latest-only [] = refl
latest-only (x ∷ past) =
    cond_both (is_arrival x.head) (x ∷ arrivals_only past) (arrivals_only past)
    (λ l. moment_or x.head (latest_of past) ≡ first_moment l)
    (λ is. moment-same x.head (latest_of past) 0 is)
    (λ is. moment-none x.head (latest_of past) is ∙ latest-only past)

pub back-is : (most : ℕ) (x : Item Number) (past : Numbers) → Fits most past → is_arrival x.head ≡ true
    → nat_lt (moment_of x) (latest_of (handed_on most past)) ≡ goes_back most x past
back-is most x past e is =
    ap (nat_lt (moment_of x)) (latest-only (handed_on most past) ∙ ap first_moment (only-handed most past e))
    ∙ is-behind x most (in_order past) (order-falls past) ∙ ap (nat_lt most) (sym (later-order x past))
    ∙ (rw is refl)

-- the moments of these numbers don't decrease
abbrev pub AreOrdered : Numbers → Type 0
AreOrdered [] = Unit {0}
AreOrdered (x ∷ past) = (latest_of past ≤ latest_of (x ∷ past)) × AreOrdered past

pub ordered-behind : (xs past : Numbers) → AreOrdered (xs ++ past) → AreOrdered past
ordered-behind [] past h = h
ordered-behind (x ∷ xs) past h = ordered-behind xs past h.1

ordered-more : (x : Item Number) (past : Numbers) (t : Bool) → is_arrival x.head ≡ t
    → Falls (if t then x ∷ arrivals_only past else arrivals_only past)
    → (Falls (arrivals_only past) → AreOrdered past) → AreOrdered (x ∷ past)
unfolding latest_of
ordered-more x past true is f by =
    let h : first_moment (arrivals_only past) ≤ moment_of x = f.1 in
    (omega (arith, h, latest-only past, moment-same x.head (latest_of past) 0 is), by f.2)
ordered-more x past false is f by = (omega (arith, moment-none x.head (latest_of past) is), by f)

pub only-ordered : (past : Numbers) → Falls (arrivals_only past) → AreOrdered past
unfolding arrivals_only
only-ordered [] f = tt
only-ordered (x ∷ past) f = ordered-more x past (is_arrival x.head) refl f (λ g. only-ordered past g)

pub handed-ordered : (most : ℕ) (past : Numbers) → Fits most past → AreOrdered (all_handed most past)
handed-ordered most past e =
    only-ordered (all_handed most past) (subst Falls (sym (arrivals-in-order most past e)) (order-falls past))

-- ---- how many they are

take-count : (most n a b c : ℕ) → a ≡ min most (n + 1) → b ≡ min 1 (n + 1 - most) → c ≡ min most n → a + b ≤ c + 1
take-count most n a b c ea eb ec = omega (arith, ea, eb, ec)

few-more : (most : ℕ) (x : Item Number) (past : Numbers) (t : Bool) → is_arrival x.head ≡ t
    → length (take most (in_order past)) + length (handed_on most past) ≤ length past
    → length (take most (in_order (x ∷ past))) + length (handed_on most (x ∷ past)) ≤ length past + 1
few-more most x past false is h =
    rw (skipped-order x past is, skipped-handed most x past is) (omega (arith, h))
few-more most x past true is h =
    let s = in_order past in
    let put = put_among x s in
    let one = take 1 (drop most put) in
    let count = length-put x s in
    let a = length-take most put ∙ ap (min most) count in
    let b = length-take 1 (drop most put) ∙ ap (min 1) (length-drop most put ∙ ap (λ n. n - most) count) in
    let k = take-count most (length s) (length (take most put)) (length one) (length (take most s)) a b
    (length-take most s) in
    rw (arrival-order x past is, handed-arrival most x past is)
    (omega (arith, h, k, length-append one (handed_on most past)))

few-parts : (most : ℕ) (past : Numbers)
    → length (take most (in_order past)) + length (handed_on most past) ≤ length past
unfolding handed_on in_order
few-parts most [] = omega (arith, length-take {A = Item Number} most [])
few-parts most (x ∷ past) =
    let h = few-more most x past (is_arrival x.head) refl (few-parts most past) in omega (arith, h)

pub all-few : (most : ℕ) (past : Numbers) → length (all_handed most past) ≤ length past
all-few most past =
    omega (arith, few-parts most past, length-append (take most (in_order past)) (handed_on most past))
