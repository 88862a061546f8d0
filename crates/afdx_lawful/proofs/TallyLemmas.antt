-- What is counted of a source, and what is judged of it once all was told.
use Rattle.std.proofs.Common.{◌≡◌, ℕ, ◌+◌, ◌-◌, ◌<◌, ◌≤◌, ◌^◌, Bool, true, false, List, [], ◌∷◌, ◌++◌, refl, sym, ap, ap₂, ◌∙◌}
use Rattle.std.proofs.Common.{arith, length}
use Rattle.std.specs.Prelude.{min, not, filter, map, reverse, if◌then◌else◌}
use Rattle.std.proofs.lemmas.List.{length-append}
use Rattle.std.proofs.lemmas.List.Elements.{filter-append}
use Rattle.afdx_frame.specs.declared.link.Side.{Side}
use Rattle.afdx_frame.specs.declared.link.Side.TheVariants.{A, B}
use Rattle.afdx_lawful.specs.Alone.{is_empty}
use Rattle.afdx_lawful.specs.Courses.{AllTold, AreJudged, Course, IsCourse, Unpaired, at_first, came_too, judge_waiting, over}
use Rattle.afdx_lawful.specs.Courses.{told_on, waited_of}
use Rattle.afdx_lawful.specs.Judged.{found_of, found_single, is_cut_of, judged_source, quiet, single_at, singles, waiting_of}
use Rattle.afdx_lawful.specs.Partners.{Waiting}
use Rattle.afdx_lawful.specs.Sources.{Came, Source}
use Rattle.afdx_lawful.specs.Tallies.{IsTally, TellsAll, alone_of, counted, cut_in, lost_in, most_counted}
use Rattle.afdx_lawful.specs.declared.tally.SourceTally.{SourceTally}

-- ---- one more

counted_more : (q r n b : ℕ) → q ≡ counted n → r ≡ min (q + b) most_counted → r ≡ counted (n + b)
counted_more q r n b h e = omega (arith, h, e)

quiet_more : (s : Source) (past : List Came) (x : Came) (b : Bool) → b ≡ is_empty (found_of s past x) →
    length (quiet s (x ∷ past)) ≡ length (quiet s past) + (if b then 1 else 0)
unfolding quiet
quiet_more s past x b h = by (is_empty (found_of s past x)) b h
  where
    by : (e b : Bool) → b ≡ e → length (if e then x ∷ quiet s past else quiet s past)
        ≡ length (quiet s past) + (if b then 1 else 0)
    by true true h = omega arith
    by false false h = omega arith
    by true false h = absurd (cc h)
    by false true h = absurd (cc h)

pub no_tally : (s : Source) → IsTally s at_first (record { quiet = 0; lost = 0; cut = 0 })
unfolding quiet lost_in cut_in
no_tally s = record { quiet_ones = refl; lost_ones = refl; cut_ones = refl }

pub come_tally : (s : Source) (c : Course) (x : Came) (tally : SourceTally) (b : Bool) (r : ℕ) →
    b ≡ is_empty (found_of s c.came x) → r ≡ min (tally.quiet + (if b then 1 else 0)) most_counted →
    IsTally s c tally → IsTally s (came_too c x) (record { quiet = r; lost = tally.lost; cut = tally.cut })
come_tally s c x tally b r h e is = record {
  quiet_ones = counted_more tally.quiet r (length (quiet s c.came)) (if b then 1 else 0) is.quiet_ones e
      ∙ ap counted (sym (quiet_more s c.came x b h));
  lost_ones = is.lost_ones;
  cut_ones = is.cut_ones;
}

-- ---- one more that is told

abbrev lost_by : Unpaired → ℕ
lost_by u = if u.is_cut then 0 else if u.waited.is_quiet then 1 else 0

abbrev cut_by : Unpaired → ℕ
cut_by u = if u.is_cut then 1 else 0

lost_first : (u : Unpaired) (us : List Unpaired) → lost_in (u ∷ us) ≡ lost_by u + lost_in us
unfolding lost_in
lost_first u us = by u.is_cut
  where
    rest : List Unpaired
    rest = filter (λ (u : Unpaired). not u.is_cut) us

    quiet_ones : List Unpaired → List Waiting
    quiet_ones vs = filter (λ (y : Waiting). y.is_quiet) (waited_of vs)

    one : (b : Bool) → length (if b then u.waited ∷ quiet_ones rest else quiet_ones rest)
        ≡ (if b then 1 else 0) + length (quiet_ones rest)
    one true = omega arith
    one false = omega arith

    by : (a : Bool) → length (quiet_ones (if not a then u ∷ rest else rest))
        ≡ (if a then 0 else if u.waited.is_quiet then 1 else 0) + length (quiet_ones rest)
    by true = omega arith
    by false = one u.waited.is_quiet

cut_first : (u : Unpaired) (us : List Unpaired) → cut_in (u ∷ us) ≡ cut_by u + cut_in us
unfolding cut_in
cut_first u us = by u.is_cut
  where
    by : (a : Bool) → length (if a then u ∷ filter (λ (u : Unpaired). u.is_cut) us
        else filter (λ (u : Unpaired). u.is_cut) us)
        ≡ (if a then 1 else 0) + length (filter (λ (u : Unpaired). u.is_cut) us)
    by true = omega arith
    by false = omega arith

lost_more : (us : List Unpaired) (u : Unpaired) → lost_in (us ++ u ∷ []) ≡ lost_in us + lost_by u
lost_more [] u = omega (arith, lost_first u [])
lost_more (v ∷ us) u = omega (arith, lost_first v us, lost_first v (us ++ u ∷ []), lost_more us u)

cut_more : (us : List Unpaired) (u : Unpaired) → cut_in (us ++ u ∷ []) ≡ cut_in us + cut_by u
cut_more [] u = omega (arith, cut_first u [])
cut_more (v ∷ us) u = omega (arith, cut_first v us, cut_first v (us ++ u ∷ []), cut_more us u)

module _ (s : Source) (c : Course) (y : Waiting) (tally : SourceTally) where
  abbrev u : Unpaired
  u = judge_waiting s c y

  lost_then : (side : Side) → lost_in (over (told_on s c y side) A) + lost_in (over (told_on s c y side) B)
      ≡ lost_in (over c A) + lost_in (over c B) + lost_by u
  lost_then A = omega (arith, lost_more c.over_a u)
  lost_then B = omega (arith, lost_more c.over_b u)

  cut_then : (side : Side) → cut_in (over (told_on s c y side) A) + cut_in (over (told_on s c y side) B)
      ≡ cut_in (over c A) + cut_in (over c B) + cut_by u
  cut_then A = omega (arith, cut_more c.over_a u)
  cut_then B = omega (arith, cut_more c.over_b u)

  pub same_came : (side : Side) → (told_on s c y side).came ≡ c.came
  same_came A = refl
  same_came B = refl

  pub tell_cut : (side : Side) (r : ℕ) → is_cut_of s c.came y ≡ true → r ≡ min (tally.cut + 1) most_counted →
      IsTally s c tally →
      IsTally s (told_on s c y side) (record { quiet = tally.quiet; lost = tally.lost; cut = r })
  tell_cut side r h e is =
      let none : lost_by u ≡ 0 = ap (λ (b : Bool). if b then 0 else if y.is_quiet then 1 else 0) h in
      let one : cut_by u ≡ 1 = ap (λ (b : Bool). if b then 1 else 0) h in
      record {
        quiet_ones = is.quiet_ones ∙ ap (λ (xs : List Came). counted (length (quiet s xs))) (sym (same_came side));
        lost_ones = is.lost_ones ∙ ap counted (omega (arith, lost_then side, none));
        cut_ones = counted_more tally.cut r (cut_in (over c A) + cut_in (over c B)) 1 is.cut_ones e
            ∙ ap counted (omega (arith, cut_then side, one));
      }

  pub tell_lost : (side : Side) (r : ℕ) → is_cut_of s c.came y ≡ false →
      r ≡ min (tally.lost + (if y.is_quiet then 1 else 0)) most_counted → IsTally s c tally →
      IsTally s (told_on s c y side) (record { quiet = tally.quiet; lost = r; cut = tally.cut })
  tell_lost side r h e is =
      let some : lost_by u ≡ (if y.is_quiet then 1 else 0) =
      ap (λ (b : Bool). if b then 0 else if y.is_quiet then 1 else 0) h in
      let none : cut_by u ≡ 0 = ap (λ (b : Bool). if b then 1 else 0) h in
      record {
        quiet_ones = is.quiet_ones ∙ ap (λ (xs : List Came). counted (length (quiet s xs))) (sym (same_came side));
        lost_ones = counted_more tally.lost r (lost_in (over c A) + lost_in (over c B))
            (if y.is_quiet then 1 else 0) is.lost_ones e
            ∙ ap counted (omega (arith, lost_then side, some));
        cut_ones = is.cut_ones ∙ ap counted (omega (arith, cut_then side, none));
      }

-- ---- once all was told

module _ (s : Source) (xs : List Came) where
  pub alone_is : (us : List Unpaired) → AreJudged s xs us →
      filter (λ (y : Waiting). not (is_cut_of s xs y)) (waited_of us) ≡ alone_of us
  alone_is [] h = refl
  alone_is (u ∷ us) h = by (is_cut_of s xs u.waited) u.is_cut h.0 (alone_is us h.1)
    where
      by : (a b : Bool) → b ≡ a →
          filter (λ (y : Waiting). not (is_cut_of s xs y)) (waited_of us) ≡ alone_of us →
          (if not a then u.waited ∷ filter (λ (y : Waiting). not (is_cut_of s xs y)) (waited_of us)
          else filter (λ (y : Waiting). not (is_cut_of s xs y)) (waited_of us))
          ≡ waited_of (if not b then u ∷ filter (λ (u : Unpaired). not u.is_cut) us
          else filter (λ (u : Unpaired). not u.is_cut) us)
      by true true e rest = rest
      by false false e rest = ap (λ (l : List Waiting). u.waited ∷ l) rest
      by true false e rest = absurd (cc e)
      by false true e rest = absurd (cc e)

  cut_is : (us : List Unpaired) → AreJudged s xs us → length (filter (is_cut_of s xs) (waited_of us)) ≡ cut_in us
  unfolding cut_in
  cut_is [] h = refl
  cut_is (u ∷ us) h = by (is_cut_of s xs u.waited) u.is_cut h.0 (cut_is us h.1)
    where
      by : (a b : Bool) → b ≡ a →
          length (filter (is_cut_of s xs) (waited_of us)) ≡ length (filter (λ (u : Unpaired). u.is_cut) us) →
          length (if a then u.waited ∷ filter (is_cut_of s xs) (waited_of us)
          else filter (is_cut_of s xs) (waited_of us))
          ≡ length (if b then u ∷ filter (λ (u : Unpaired). u.is_cut) us
          else filter (λ (u : Unpaired). u.is_cut) us)
      by true true e rest = omega (arith, rest)
      by false false e rest = rest
      by true false e rest = absurd (cc e)
      by false true e rest = absurd (cc e)

few_quiet : (s : Source) (xs : List Came) → length (quiet s xs) ≤ length xs
unfolding quiet
few_quiet s [] = omega arith
few_quiet s (x ∷ past) = by (is_empty (found_of s past x)) (few_quiet s past)
  where
    by : (e : Bool) → length (quiet s past) ≤ length past →
        length (if e then x ∷ quiet s past else quiet s past) ≤ length (x ∷ past)
    by true h = omega (arith, h)
    by false h = omega (arith, h)

few_cut : (us : List Unpaired) → cut_in us ≤ length us
unfolding cut_in
few_cut [] = omega arith
few_cut (u ∷ us) = by u.is_cut (few_cut us)
  where
    by : (a : Bool) → length (filter (λ (u : Unpaired). u.is_cut) us) ≤ length us →
        length (if a then u ∷ filter (λ (u : Unpaired). u.is_cut) us else filter (λ (u : Unpaired). u.is_cut) us)
        ≤ length (u ∷ us)
    by true h = omega (arith, h)
    by false h = omega (arith, h)

-- a difference of what is counted
left_counted : (n l q k r : ℕ) → n ≤ most_counted → q ≡ counted n → k ≡ counted l → r ≡ q - k → r ≡ n - l
left_counted n l q k r small a b c = omega (arith, small, a, b, c)

all_counted : (n r : ℕ) → n ≤ most_counted → r ≡ counted n → r ≡ n
all_counted n r small a = omega (arith, small, a)

module _ (s : Source) (c : Course) (h : IsCourse s c) (told : AllTold s c) where
  singles_are : (side : Side) → singles s side c.came ≡ alone_of (over c side)
  singles_are side =
      ap (filter (λ (y : Waiting). not (is_cut_of s c.came y))) (told side)
      ∙ alone_is s c.came (over c side) (h.judged side)

  found_are : (side : Side) → found_single s side c.came
      ≡ map (single_at s) (reverse (alone_of (over c side)))
  found_are side = ap (λ (l : List Waiting). map (single_at s) (reverse l)) (singles_are side)

  lost_are : length (filter (λ (y : Waiting). y.is_quiet) (singles s A c.came ++ singles s B c.came))
      ≡ lost_in (over c A) + lost_in (over c B)
  unfolding lost_in
  lost_are =
      ap₂ (λ (a b : List Waiting). length (filter (λ (y : Waiting). y.is_quiet) (a ++ b)))
      (singles_are A) (singles_are B)
      ∙ ap length (filter-append (λ (y : Waiting). y.is_quiet) (alone_of (over c A)) (alone_of (over c B)))
      ∙ length-append (filter (λ (y : Waiting). y.is_quiet) (alone_of (over c A)))
      (filter (λ (y : Waiting). y.is_quiet) (alone_of (over c B)))

  cut_on : (side : Side) → length (filter (is_cut_of s c.came) (waiting_of s side c.came)) ≡ cut_in (over c side)
  cut_on side =
      ap (λ (l : List Waiting). length (filter (is_cut_of s c.came) l)) (told side)
      ∙ cut_is s c.came (over c side) (h.judged side)

  pub tells_all : (tally : SourceTally) (r : ℕ) → IsTally s c tally → r ≡ tally.quiet - tally.lost →
      length (over c A) + length (over c B) ≤ length c.came → length c.came < 2 ^ 64 →
      TellsAll s c (record { sent = r; cut = tally.cut })
  unfolding judged_source
  tells_all tally r is e fits few = record {
    on_a = found_are A;
    on_b = found_are B;
    sent = left_counted (length (quiet s c.came)) (lost_in (over c A) + lost_in (over c B)) tally.quiet tally.lost r
        (omega (arith, few_quiet s c.came, few)) is.quiet_ones is.lost_ones e
        ∙ ap (λ n. length (quiet s c.came) - n) (sym lost_are);
    cut = all_counted (cut_in (over c A) + cut_in (over c B)) tally.cut
        (omega (arith, few_cut (over c A), few_cut (over c B), fits, few)) is.cut_ones
        ∙ ap₂ (λ (a b : ℕ). a + b) (sym (cut_on A)) (sym (cut_on B));
  }
