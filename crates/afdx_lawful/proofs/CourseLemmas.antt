-- What was told stays so.
use Rattle.std.proofs.Common.{◌≡◌, ℕ, ◌+◌, ◌≤◌, ◌<◌, Bool, true, false, ◌&&◌, ◌||◌, List, [], ◌∷◌, ◌++◌, refl, sym, ap, ap₂, ◌∙◌}
use Rattle.std.proofs.Common.{arith}
use Rattle.std.specs.Prelude.{not, max, if◌then◌else◌, nat_le, nat_lt}
use Rattle.std.specs.List.{list_any}
use Rattle.std.proofs.lemmas.Bool.{lt-leb}
use Rattle.afdx_frame.specs.Sides.{is_side}
use Rattle.afdx_frame.specs.declared.link.Side.{Side}
use Rattle.afdx_frame.specs.declared.link.Side.TheVariants.{A, B}
use Rattle.afdx_receive.specs.Steps.{is_within_steps}
use Rattle.afdx_lawful.specs.Alone.{number_in}
use Rattle.afdx_lawful.specs.Courses.{AreJudged, ArePast, Course, IsCourse, Unpaired, at_first, came_too, judge_waiting, over, told_at}
use Rattle.afdx_lawful.specs.Courses.{told_on, waited_of, waited_on}
use Rattle.afdx_lawful.specs.Flaws.{is_whole, whole_of}
use Rattle.afdx_lawful.specs.Partners.{Waiting, is_before, is_cut, is_near, most_steps, other}
use Rattle.afdx_lawful.specs.Sources.{Came, Source, apart, hold, on_side, slip}
use Rattle.afdx_lawful.proofs.CutLemmas.{up_later}
use Rattle.afdx_lawful.proofs.PastLemmas.{all_and, past_later}

-- ---- a frame behind the hold of another isn't near it

module _ (s : Source) (x y : Came) (behind : y.time + hold s < x.time) where
  not_near : is_near s y x ≡ false
  not_near = by (nat_le y.time (x.time + hold s)) (lt-leb x.time (y.time + hold s) behind)
    where
      by : (a : Bool) → nat_le x.time (y.time + hold s) ≡ false →
          (a && nat_le x.time (y.time + hold s)) ≡ false
      by true e = e
      by false e = refl

  none_near : (f : ℕ → Bool) (xs : List Came) →
      list_any (λ (z : Came). is_near s y z && f (number_in z)) (x ∷ xs)
      ≡ list_any (λ (z : Came). is_near s y z && f (number_in z)) xs
  none_near f xs =
      ap (λ (b : Bool). (b && f (number_in x)) || list_any (λ (z : Came). is_near s y z && f (number_in z)) xs)
      not_near

  cut_and : (xs : List Came) → is_cut s (x ∷ xs) y ≡ is_cut s xs y
  unfolding is_cut
  cut_and xs =
      ap₂ (λ (w h : Bool). nat_lt s.until (y.time + apart s y + slip s) && not w
      || is_before s s.by.start y && not h)
      (none_near (λ n. is_within_steps most_steps (number_in y) n) xs)
      (none_near (λ n. is_within_steps most_steps n (number_in y)) xs)

  pub on_then : (side : Side) (xs : List Came) →
      is_cut s (on_side side (whole_of (x ∷ xs))) y ≡ is_cut s (on_side side (whole_of xs)) y
  on_then side xs = by (is_whole x)
    where
      one : (b : Bool) → is_cut s (if b then x ∷ on_side side (whole_of xs) else on_side side (whole_of xs)) y
          ≡ is_cut s (on_side side (whole_of xs)) y
      one true = cut_and (on_side side (whole_of xs))
      one false = refl

      by : (b : Bool) → is_cut s (on_side side (if b then x ∷ whole_of xs else whole_of xs)) y
          ≡ is_cut s (on_side side (whole_of xs)) y
      by true = one (is_side side x.side)
      by false = refl

judged_later : (s : Source) (x : Came) (xs : List Came) (us : List Unpaired) → ArePast s x.time (waited_of us) →
    AreJudged s xs us → AreJudged s (x ∷ xs) us
judged_later s x xs [] past h = h
judged_later s x xs (u ∷ us) past h = (
  h.0 ∙ sym (on_then s x u.waited.frame past.0 (other u.waited.frame.side) xs),
  judged_later s x xs us past.1 h.1,
)

-- ---- the steps of a course

module _ (s : Source) (c : Course) (h : IsCourse s c) where
  pub came_course : (x : Came) → c.reached ≤ x.time → IsCourse s (came_too c x)
  came_course x up = record {
    by_time = (omega arith, up_later c.reached x.time c.came up h.by_time);
    past = past;
    judged = judged;
  }
    where
      past : (side : Side) → ArePast s x.time (waited_on (came_too c x) side)
      past A = past_later s c.reached x.time (waited_on c A) up (h.past A)
      past B = past_later s c.reached x.time (waited_on c B) up (h.past B)

      judged : (side : Side) → AreJudged s (x ∷ c.came) (over (came_too c x) side)
      judged A = judged_later s x c.came c.over_a (past A) (h.judged A)
      judged B = judged_later s x c.came c.over_b (past B) (h.judged B)

  module _ (y : Waiting) where
    abbrev u : Unpaired
    u = judge_waiting s c y

    abbrev end : ℕ
    end = max c.reached (told_at s y + 1)

    all_past : (us : List Unpaired) → ArePast s c.reached (waited_of us) → ArePast s end (waited_of (us ++ u ∷ []))
    all_past [] past = (omega arith, _)
    all_past (v ∷ us) past = (omega (arith, past.0), all_past us past.1)

    all_judged : (us : List Unpaired) → AreJudged s c.came us → AreJudged s c.came (us ++ u ∷ [])
    all_judged us judged = all_and _ us u judged refl

    pub told_course : (side : Side) → IsCourse s (told_on s c y side)
    told_course A = record {
      by_time = up_later c.reached end c.came (omega arith) h.by_time;
      past = past;
      judged = judged;
    }
      where
        past : (side : Side) → ArePast s end (waited_on (told_on s c y A) side)
        past A = all_past c.over_a (h.past A)
        past B = past_later s c.reached end (waited_on c B) (omega arith) (h.past B)

        judged : (side : Side) → AreJudged s c.came (over (told_on s c y A) side)
        judged A = all_judged c.over_a (h.judged A)
        judged B = h.judged B
    told_course B = record {
      by_time = up_later c.reached end c.came (omega arith) h.by_time;
      past = past;
      judged = judged;
    }
      where
        past : (side : Side) → ArePast s end (waited_on (told_on s c y B) side)
        past A = past_later s c.reached end (waited_on c A) (omega arith) (h.past A)
        past B = all_past c.over_b (h.past B)

        judged : (side : Side) → AreJudged s c.came (over (told_on s c y B) side)
        judged A = h.judged A
        judged B = all_judged c.over_b (h.judged B)

pub first_course : (s : Source) → IsCourse s at_first
first_course s = record { by_time = _; past = past; judged = judged }
  where
    past : (side : Side) → ArePast s 0 (waited_on at_first side)
    past A = _
    past B = _

    judged : (side : Side) → AreJudged s [] (over at_first side)
    judged A = _
    judged B = _
