-- The level of a side, by what the code keeps of it.
use Rattle.std.proofs.Common.{◌≡◌, ℕ, ◌+◌, ◌*◌, ◌-◌, ◌≤◌, ◌<◌, true, false, List, [], ◌∷◌, sym, ap, ap₂, ◌∙◌, arith}
use Rattle.std.proofs.lemmas.Bool.{cond-true, cond-false, le-leb, lt-leb}
use Rattle.afdx_lawful.specs.Alone.{has_room, level, times_with_room}
use Rattle.afdx_lawful.specs.Sources.{Came, Source, cost, fast, room}

pub first_level : (s : Source) (time : ℕ) → level s (times_with_room s []) time ≡ 0 - fast s * (time - 0)
unfolding times_with_room
first_level s time = omega arith

module _ (s : Source) (past : List Came) (x : Came) (l t : ℕ)
    (is : (time : ℕ) → level s (times_with_room s past) time ≡ l - fast s * (time - t)) where
  fits : l - fast s * (x.time - t) ≤ room s → has_room s (times_with_room s past) x.time ≡ true
  fits h = le-leb _ _ (omega (arith, h, is x.time))

  fits_not : room s < l - fast s * (x.time - t) → has_room s (times_with_room s past) x.time ≡ false
  fits_not h = lt-leb _ _ (omega (arith, h, is x.time))

  pub charged_level : l - fast s * (x.time - t) ≤ room s → (time : ℕ) →
      level s (times_with_room s (x ∷ past)) time
      ≡ l - fast s * (x.time - t) + cost s - fast s * (time - x.time)
  unfolding times_with_room
  charged_level h time =
      ap (λ (times : List ℕ). level s times time)
      (cond-true (has_room s (times_with_room s past) x.time) (x.time ∷ times_with_room s past)
      (times_with_room s past) (fits h))
      ∙ ap (λ n. n + cost s - fast s * (time - x.time)) (is x.time)

  pub kept_level : room s < l - fast s * (x.time - t) → (time : ℕ) →
      level s (times_with_room s (x ∷ past)) time ≡ l - fast s * (time - t)
  unfolding times_with_room
  kept_level h time =
      ap (λ (times : List ℕ). level s times time)
      (cond-false (has_room s (times_with_room s past) x.time) (x.time ∷ times_with_room s past)
      (times_with_room s past) (fits_not h))
      ∙ is time

-- ---- by what the code computes

module _ (s : Source) (past : List Came) (x : Came) (l t at level' c : ℕ) (time-is : x.time ≡ at)
    (level-is : level' ≡ l - fast s * (at - t))
    (is : (time : ℕ) → level s (times_with_room s past) time ≡ l - fast s * (time - t)) where
  fallen : level' ≡ l - fast s * (x.time - t)
  fallen = level-is ∙ ap (λ n. l - fast s * (n - t)) (sym time-is)

  pub charged_stands : c ≡ cost s → level' ≤ room s → (time : ℕ) →
      level s (times_with_room s (x ∷ past)) time ≡ level' + c - fast s * (time - at)
  charged_stands cost-is small time =
      charged_level s past x l t is (omega (arith, fallen, small)) time
      ∙ ap₂ (λ (a b : ℕ). a + b - fast s * (time - x.time)) (sym fallen) (sym cost-is)
      ∙ ap (λ n. level' + c - fast s * (time - n)) time-is

  pub kept_stands : room s < level' → (time : ℕ) →
      level s (times_with_room s (x ∷ past)) time ≡ l - fast s * (time - t)
  kept_stands great = kept_level s past x l t is (omega (arith, fallen, great))
