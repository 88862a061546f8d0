-- Which frames waited in vain before a time isn't changed by one that comes at it or later.
use Rattle.std.proofs.Common.{◌≡◌, ℕ, ◌+◌, ◌<◌, ◌≤◌, Bool, true, false, ◌&&◌, List, [], ◌∷◌, ◌++◌, refl, ap, ◌∙◌, arith}
use Rattle.std.proofs.Common.{Option, Some}
use Rattle.std.proofs.lemmas.Bool.{le-ltb, lt-leb, ltb-true}
use Rattle.std.proofs.lemmas.List.Elements.{filter-append}
use Rattle.std.specs.List.{list_any}
use Rattle.std.specs.Prelude.{filter, if◌then◌else◌, not, nat_eq, nat_le}
use Rattle.afdx_frame.specs.Sides.{is_side}
use Rattle.afdx_frame.specs.declared.link.Side.{Side}
use Rattle.afdx_lawful.specs.Alone.{number_in}
use Rattle.afdx_lawful.specs.Courses.{told_at}
use Rattle.afdx_lawful.specs.Flaws.{is_whole, whole_of}
use Rattle.afdx_lawful.specs.Judged.{is_cut_of, singles, waiting_of}
use Rattle.afdx_lawful.specs.Partners.{Waiting, joined, may_pair, other, waiting, waits_now, without_first}
use Rattle.afdx_lawful.specs.Sources.{Came, Source, hold}
use Rattle.afdx_lawful.proofs.CourseLemmas.{on_then}
use Rattle.afdx_senders.specs.Order.{is_moment_before}
use Rattle.afdx_senders.proofs.ListLemmas.{all_weaker, filter_same, filter_swap, passes}

-- its moment lies before that time, if there is one
abbrev pub is_over : Source → Option ℕ → Waiting → Bool
is_over s before y = is_moment_before before (told_at s y)

module _ (s : Source) (time : ℕ) (x : Came) (late : time ≤ x.time) where
  abbrev early : Waiting → Bool
  early y = is_over s (Some time) y

  behind_it : (y : Waiting) → early y ≡ true → y.frame.time + hold s < x.time
  behind_it y e = let less : told_at s y < time = ltb-true (told_at s y) time e in omega (arith, less, late)

  -- ---- it can't be their copy

  no_copy : (y : Waiting) → early y ≡ true → may_pair s x y ≡ false
  unfolding may_pair
  no_copy y e = by (nat_eq (number_in y.frame) (number_in x))
    where
      late_one : nat_le x.time (told_at s y) ≡ false
      late_one = lt-leb x.time (told_at s y) (behind_it y e)

      by : (b : Bool) → (b && nat_le x.time (told_at s y)) ≡ false
      by true = late_one
      by false = refl

  one_taken : (ys : List Waiting) → filter early (without_first (may_pair s x) ys) ≡ filter early ys
  unfolding without_first
  one_taken [] = refl
  one_taken (y ∷ ys) = by (may_pair s x y) refl (early y) refl (one_taken ys)
    where
      left : List Waiting
      left = without_first (may_pair s x) ys

      by : (p : Bool) → may_pair s x y ≡ p → (e : Bool) → early y ≡ e → filter early left ≡ filter early ys →
          filter early (if p then ys else y ∷ left) ≡ (if e then y ∷ filter early ys else filter early ys)
      by true pairs true is same = let no = no_copy y is in absurd (cc)
      by true pairs false is same = refl
      by false pairs true is same =
          ap (λ (b : Bool). if b then y ∷ filter early left else filter early left) is
          ∙ ap (λ (l : List Waiting). y ∷ l) same
      by false pairs false is same =
          ap (λ (b : Bool). if b then y ∷ filter early left else filter early left) is ∙ same

  too_late : (past : List Came) → early (waits_now s past x) ≡ false
  too_late past = le-ltb (x.time + hold s) time (omega (arith, late))

  one_put : (past : List Came) (ys : List Waiting) → filter early (ys ++ waits_now s past x ∷ []) ≡ filter early ys
  one_put past ys =
      filter-append early ys (waits_now s past x ∷ [])
      ∙ ap (λ (b : Bool). filter early ys ++ (if b then waits_now s past x ∷ [] else [])) (too_late past)
      ∙ nothing_more (filter early ys)
    where
      nothing_more : (l : List Waiting) → l ++ [] ≡ l
      nothing_more [] = refl
      nothing_more (y ∷ l) = ap (λ (k : List Waiting). y ∷ k) (nothing_more l)

  whole_next : (side : Side) (past : List Came) →
      filter early (waiting s side (x ∷ past)) ≡ filter early (waiting s side past)
  unfolding waiting
  whole_next side past = by (is_side side x.side)
    where
      one : (b : Bool) → filter early
          (if b then waiting s side past else waiting s side past ++ waits_now s past x ∷ [])
          ≡ filter early (waiting s side past)
      one true = refl
      one false = one_put past (waiting s side past)

      by : (b : Bool) → filter early
          (if b then joined s past x (waiting s side past) (waiting s (other side) past)
          else without_first (may_pair s x) (waiting s side past))
          ≡ filter early (waiting s side past)
      by true = one (list_any (may_pair s x) (waiting s (other side) past))
      by false = one_taken (waiting s side past)

  -- of those that wait just the same are over before that time
  pub same_over : (side : Side) (past : List Came) →
      filter early (waiting_of s side (x ∷ past)) ≡ filter early (waiting_of s side past)
  same_over side past = by s.is_paired
    where
      one : (b : Bool) → filter early (waiting s side (if b then x ∷ whole_of past else whole_of past))
          ≡ filter early (waiting s side (whole_of past))
      one true = whole_next side (whole_of past)
      one false = refl

      by : (b : Bool) → filter early (if b then waiting s side (whole_of (x ∷ past)) else [])
          ≡ filter early (if b then waiting s side (whole_of past) else [])
      by true = one (is_whole x)
      by false = refl

  -- ---- it doesn't tell whether their copies are cut off

  cut_same : (past : List Came) (y : Waiting) → early y ≡ true → is_cut_of s (x ∷ past) y ≡ is_cut_of s past y
  cut_same past y e = on_then s x y.frame (behind_it y e) (other y.frame.side) past

  -- just the same of them are told
  pub same_singles : (side : Side) (past : List Came) →
      filter early (singles s side (x ∷ past)) ≡ filter early (singles s side past)
  same_singles side past =
      let new = λ (y : Waiting). not (is_cut_of s (x ∷ past) y) in
      let old = λ (y : Waiting). not (is_cut_of s past y) in
      let ys = waiting_of s side past in
      filter_swap early new (waiting_of s side (x ∷ past))
      ∙ ap (λ (l : List Waiting). filter new l) (same_over side past)
      ∙ filter_same new old (filter early ys)
      (all_weaker (λ y e. ap not (cut_same past y e)) (filter early ys) (passes early ys))
      ∙ filter_swap old early ys
