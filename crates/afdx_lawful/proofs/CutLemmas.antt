-- Whether the copy of a frame is cut off, by the other side's frames since a moment.
use Rattle.std.proofs.Common.{◌≡◌, ℕ, ◌+◌, ◌-◌, ◌≤◌, ◌<◌, Bool, true, false, ◌&&◌, ◌||◌, List, [], ◌∷◌, refl, sym, ap, ap₂, ◌∙◌}
use Rattle.std.proofs.Common.{Option, arith}
use Rattle.std.specs.Prelude.{not, filter, if◌then◌else◌, nat_le, nat_lt}
use Rattle.std.specs.List.{list_any}
use Rattle.std.proofs.lemmas.Bool.{le-leb, leb-true, leb-false}
use Rattle.afdx_frame.specs.declared.link.Side.{Side}
use Rattle.afdx_receive.specs.Steps.{is_within_steps}
use Rattle.afdx_lawful.specs.Accepted.{ComeUpTo}
use Rattle.afdx_lawful.specs.Alone.{number_in}
use Rattle.afdx_lawful.specs.Courses.{told_at}
use Rattle.afdx_lawful.specs.Flaws.{is_whole, whole_of}
use Rattle.afdx_lawful.specs.Judged.{is_cut_of}
use Rattle.afdx_lawful.specs.LastCame.{stands_so}
use Rattle.afdx_lawful.specs.Partners.{Waiting, had_begun, is_before, is_cut, is_near, most_steps, other}
use Rattle.afdx_lawful.specs.Partners.{went_on}
use Rattle.afdx_lawful.specs.Sources.{Came, Source, apart, hold, on_side, slip}

-- ---- times of some of the frames

pub up_later : (time later : ℕ) (xs : List Came) → time ≤ later → ComeUpTo time xs → ComeUpTo later xs
up_later time later [] up h = h
up_later time later (x ∷ past) up h = (omega (arith, up, h.0), h.1)

pub up_filtered : (p : Came → Bool) (time : ℕ) (xs : List Came) → ComeUpTo time xs → ComeUpTo time (filter p xs)
up_filtered p time [] h = h
up_filtered p time (x ∷ past) h = by (p x) (up_filtered p x.time past h.1)
  where
    by : (b : Bool) → ComeUpTo x.time (filter p past) →
        ComeUpTo time (if b then x ∷ filter p past else filter p past)
    by true rest = (h.0, rest)
    by false rest = up_later x.time time (filter p past) h.0 rest

pub up_on : (side : Side) (time : ℕ) (xs : List Came) → ComeUpTo time xs → ComeUpTo time (on_side side (whole_of xs))
up_on side time xs h =
    up_filtered _ time (whole_of xs) (up_filtered is_whole time xs h)

-- ---- near frames

shifted : (a b h : ℕ) → nat_le a (b + h) ≡ nat_le (a - h) b
shifted a b h = by (nat_le a (b + h)) refl (nat_le (a - h) b) refl
  where
    by : (p : Bool) → nat_le a (b + h) ≡ p → (q : Bool) → nat_le (a - h) b ≡ q →
        nat_le a (b + h) ≡ nat_le (a - h) b
    by true e true f = e ∙ sym f
    by false e false f = e ∙ sym f
    by true e false f =
        let low : a ≤ b + h = leb-true a (b + h) e in
        let high : b < a - h = leb-false (a - h) b f in absurd (omega (arith, low, high))
    by false e true f =
        let low : a - h ≤ b = leb-true (a - h) b f in
        let high : b + h < a = leb-false a (b + h) e in absurd (omega (arith, low, high))

module _ (s : Source) (x : Came) (f : ℕ → Bool) where
  near_one : (y : Came) → y.time ≤ x.time + hold s →
      (is_near s x y && f (number_in y)) ≡ (nat_le (x.time - hold s) y.time && f (number_in y))
  near_one y h =
      ap₂ (λ (a b : Bool). (a && b) && f (number_in y)) (shifted x.time y.time (hold s))
      (le-leb y.time (x.time + hold s) h)
      ∙ ap (λ (a : Bool). a && f (number_in y)) (and_true (nat_le (x.time - hold s) y.time))
    where
      and_true : (b : Bool) → (b && true) ≡ b
      and_true true = refl
      and_true false = refl

  near_since : (time : ℕ) (ys : List Came) → time ≤ x.time + hold s → ComeUpTo time ys →
      list_any (λ (y : Came). is_near s x y && f (number_in y)) ys
      ≡ list_any (λ (y : Came). nat_le (x.time - hold s) y.time && f (number_in y)) ys
  near_since time [] up h = refl
  near_since time (y ∷ ys) up h =
      ap₂ (λ (a b : Bool). a || b) (near_one y (omega (arith, up, h.0)))
      (near_since y.time ys (omega (arith, up, h.0)) h.1)

module _ (s : Source) (xs : List Came) (y : Waiting) (up : ComeUpTo (told_at s y) xs) where
  abbrev others : List Came
  others = on_side (other y.frame.side) (whole_of xs)

  pub others_up : ComeUpTo (told_at s y) others
  others_up = up_on (other y.frame.side) (told_at s y) xs up

  abbrev any_since : ℕ → ℕ → Bool → Bool
  any_since moment number later =
      list_any (λ (x : Came). nat_le moment x.time && stands_so later number (number_in x)) others

  went : went_on s y.frame others ≡ any_since (y.frame.time - hold s) (number_in y.frame) true
  went = near_since s y.frame (λ n. is_within_steps most_steps (number_in y.frame) n) (told_at s y) others
      (omega arith) others_up

  begun : had_begun s y.frame others ≡ any_since (y.frame.time - hold s) (number_in y.frame) false
  begun = near_since s y.frame (λ n. is_within_steps most_steps n (number_in y.frame)) (told_at s y) others
      (omega arith) others_up

  module _ (moment number : ℕ) (moment-is : moment ≡ y.frame.time - hold s) (number-is : number ≡ number_in y.frame)
    where
      since : (later : Bool) → any_since moment number later
          ≡ any_since (y.frame.time - hold s) (number_in y.frame) later
      since later = ap₂ (λ (m n : ℕ). any_since m n later) moment-is number-is

      pub cut_by : (later sooner behind before : Bool) →
          later ≡ nat_lt s.until (y.frame.time + apart s y.frame + slip s) → sooner ≡ is_before s s.by.start y.frame →
          behind ≡ (later && not (any_since moment number true)) →
          before ≡ (sooner && not (any_since moment number false)) → (behind || before) ≡ is_cut_of s xs y
      unfolding is_cut
      cut_by later sooner behind before a b c d =
          ap₂ (λ (p q : Bool). p || q)
          (c ∙ ap₂ (λ (p q : Bool). p && not q) a (since true ∙ sym went))
          (d ∙ ap₂ (λ (p q : Bool). p && not q) b (since false ∙ sym begun))

pub or_true : (a b : Bool) → a ≡ true → a ≡ (a || b)
or_true true b h = refl
or_true false b h = absurd (cc h)

pub or_false : (a b : Bool) → a ≡ false → b ≡ (a || b)
or_false false b h = refl
or_false true b h = absurd (cc h)

pub before_is : (s : Source) (start : Option ℕ) (r : Bool) (x : Came) → s.by.start ≡ start →
    r ≡ is_before s start x → r ≡ is_before s s.by.start x
before_is s start r x same is = is ∙ ap (λ (o : Option ℕ). is_before s o x) (sym same)
