-- What a link's rule accepts of its own arrivals. Lists have the newest first.
use Rattle.std.proofs.Common.{◌≡◌, ℕ, ◌≤◌, Bool, true, false, List, [], ◌∷◌, refl, sym, ap, ◌∙◌, subst, arith, inl, inr}
use Rattle.std.proofs.lemmas.List.Elements.{All-from_recursion}
use Rattle.std.specs.Prelude.{IsTrue, is_none, if◌then◌else◌, Option, Some, None}
use Rattle.std.specs.Option.{option_or}
use Rattle.std.specs.List.{AllByRecursion}
use Rattle.afdx_frame.specs.Regulation.{cap, is_bag}
use Rattle.afdx_police.specs.Account.{missing, overdrawn}
use Rattle.afdx_police.specs.Arrival.{Arrival}
use Rattle.afdx_police.specs.Rule.{Rule, regulation_of}
use Rattle.afdx_police.specs.Shape.{fault_of}
use Rattle.afdx_police.specs.Verdicts.{accepted_arrivals, charged_by, accepted_own, reason_after}
use Rattle.afdx_police.specs.Window as window
use Rattle.afdx_police.specs.Window.{Charged}
use Rattle.afdx_police.specs.declared.shape.Reason.{Reason}
use Rattle.afdx_police.specs.declared.shape.Reason.TheVariants.{OverRate}
use Rattle.afdx_police.proofs.AccountLemmas.{fits-room, missing-accept, missing-later}
use Rattle.afdx_conform.specs.Headline.{sound_of, GoByTime}
use Rattle.afdx_law_text.proofs.ListLemmas.{bool-cases}

module _ (rule : Rule) where
  -- what is accepted, or of the right shape, is of what came
  pub accepted-keep : (P : Arrival → Type 0) (xs : List Arrival) → AllByRecursion P xs
      → AllByRecursion P (accepted_arrivals rule xs)
  unfolding accepted_arrivals
  accepted-keep P [] all = tt
  accepted-keep P (x ∷ xs) all = by (is_none (reason_after rule xs x)) (accepted-keep P xs all.1)
    where
      by : (b : Bool) → AllByRecursion P (accepted_arrivals rule xs)
          → AllByRecursion P (if b then x ∷ accepted_arrivals rule xs else accepted_arrivals rule xs)
      by true rest = (all.0, rest)
      by false rest = rest

  pub sound-keep : (P : Arrival → Type 0) (xs : List Arrival) → AllByRecursion P xs
      → AllByRecursion P (sound_of rule xs)
  unfolding sound_of
  sound-keep P [] all = tt
  sound-keep P (x ∷ xs) all = by (is_none (fault_of (Some rule) x.port x.bytes)) (sound-keep P xs all.1)
    where
      by : (b : Bool) → AllByRecursion P (sound_of rule xs)
          → AllByRecursion P (if b then x ∷ sound_of rule xs else sound_of rule xs)
      by true rest = (all.0, rest)
      by false rest = rest

  pub accepted-by-time : (xs : List Arrival) → GoByTime xs → GoByTime (accepted_arrivals rule xs)
  unfolding accepted_arrivals GoByTime
  accepted-by-time [] order = tt
  accepted-by-time (x ∷ xs) order =
      by (is_none (reason_after rule xs x)) (accepted-keep (λ w. w.time ≤ x.time) xs order.0)
      (accepted-by-time xs order.1)
    where
      by : (b : Bool) → AllByRecursion (λ w. w.time ≤ x.time) (accepted_arrivals rule xs)
          → GoByTime (accepted_arrivals rule xs)
          → GoByTime (if b then x ∷ accepted_arrivals rule xs else accepted_arrivals rule xs)
      by true below rest = (below, rest)
      by false below rest = rest

  pub sound-by-time : (xs : List Arrival) → GoByTime xs → GoByTime (sound_of rule xs)
  unfolding sound_of GoByTime
  sound-by-time [] order = tt
  sound-by-time (x ∷ xs) order =
      by (is_none (fault_of (Some rule) x.port x.bytes)) (sound-keep (λ w. w.time ≤ x.time) xs order.0)
      (sound-by-time xs order.1)
    where
      by : (b : Bool) → AllByRecursion (λ w. w.time ≤ x.time) (sound_of rule xs)
          → GoByTime (sound_of rule xs)
          → GoByTime (if b then x ∷ sound_of rule xs else sound_of rule xs)
      by true below rest = (below, rest)
      by false below rest = rest

  -- the window rule's test of an arrival of the right shape
  abbrev pub fit-of : List Arrival → Arrival → Bool
  fit-of past x = window.fits (regulation_of rule) (accepted_own rule past) (charged_by rule x)

  pub reason-sound : (past : List Arrival) (x : Arrival) → fault_of (Some rule) x.port x.bytes ≡ None
      → is_none (reason_after rule past x) ≡ fit-of past x
  unfolding reason_after
  reason-sound past x sound = rw sound (by (fit-of past x))
    where
      by : (b : Bool) → is_none (option_or None (if b then None else Some OverRate)) ≡ b
      by true = refl
      by false = refl

  pub reason-fault : (past : List Arrival) (x : Arrival) (why : Reason) → fault_of (Some rule) x.port x.bytes ≡ Some why
      → is_none (reason_after rule past x) ≡ false
  unfolding reason_after
  reason-fault past x why faulty = rw faulty refl

  pub own-by : (past : List Arrival) (x : Arrival) (b : Bool) → is_none (reason_after rule past x) ≡ b
      → accepted_own rule (x ∷ past) ≡
      (if b then charged_by rule x ∷ accepted_own rule past else accepted_own rule past)
  unfolding accepted_own reason_after
  own-by past x b e =
      ap (λ (d : Bool). if d then charged_by rule x ∷ accepted_own rule past else accepted_own rule past) e

  pub arrivals-by : (past : List Arrival) (x : Arrival) (b : Bool) → is_none (reason_after rule past x) ≡ b
      → accepted_arrivals rule (x ∷ past) ≡ (if b then x ∷ accepted_arrivals rule past else accepted_arrivals rule past)
  unfolding accepted_arrivals
  arrivals-by past x b e = ap (λ (d : Bool). if d then x ∷ accepted_arrivals rule past else accepted_arrivals rule
      past) e

  pub own-keep : (time : ℕ) (xs : List Arrival) → AllByRecursion (λ w. w.time ≤ time) xs
      → AllByRecursion (λ c. c.time ≤ time) (accepted_own rule xs)
  unfolding accepted_own
  own-keep time [] all = tt
  own-keep time (x ∷ past) all =
      elim (bool-cases (is_none (reason_after rule past x))) [
        | inl yes_ ↦ subst (λ (l : List Charged). AllByRecursion (λ c. c.time ≤ time) l) (sym (own-by past x true yes_))
            (all.0, own-keep time past all.1)
        | inr no_ ↦ subst (λ (l : List Charged). AllByRecursion (λ c. c.time ≤ time) l) (sym (own-by past x false no_))
            (own-keep time past all.1)
      ]

  none-missing : (time : ℕ) → missing (regulation_of rule) (accepted_own rule []) time ≤ cap (regulation_of rule)
  unfolding accepted_own overdrawn
  none-missing time = omega arith

  -- an account never lacks more than its cap
  pub at-most-cap : IsTrue (is_bag rule.bag_ms) → (xs : List Arrival) (time : ℕ) → GoByTime xs
      → AllByRecursion (λ w. w.time ≤ time) xs
      → missing (regulation_of rule) (accepted_own rule xs) time ≤ cap (regulation_of rule)
  unfolding GoByTime
  at-most-cap is [] time order all = none-missing time
  at-most-cap is (x ∷ past) time order all =
      by (is_none (reason_after rule past x)) refl (fault_of (Some rule) x.port x.bytes) refl
      (at-most-cap is past time order.1 all.1)
    where
      here : fit-of past x ≡ true
          → missing (regulation_of rule) (charged_by rule x ∷ accepted_own rule past) time ≤ cap (regulation_of rule)
      here fit =
          let room = (fits-room (regulation_of rule) is (accepted_own rule past) (charged_by rule x)).0 fit in
          let more = missing-accept (regulation_of rule) (accepted_own rule past) (charged_by rule x) in
          let after = missing-later (regulation_of rule) (charged_by rule x ∷ accepted_own rule past) x.time time
          (All-from_recursion (λ (c : Charged). c.time ≤ x.time) (charged_by rule x ∷ accepted_own rule past)
          (omega arith, own-keep x.time past order.0)) all.0 in
          omega (arith, room, more, after)

      by : (b : Bool) → is_none (reason_after rule past x) ≡ b → (f : Option Reason)
          → fault_of (Some rule) x.port x.bytes ≡ f
          → missing (regulation_of rule) (accepted_own rule past) time ≤ cap (regulation_of rule)
          → missing (regulation_of rule) (accepted_own rule (x ∷ past)) time ≤ cap (regulation_of rule)
      by false e f g rest = subst (λ (l : List Charged). missing (regulation_of rule) l time ≤ cap (regulation_of rule))
          (sym (own-by past x false e)) rest
      by true e None g rest = subst (λ (l : List Charged). missing (regulation_of rule) l time ≤ cap
          (regulation_of rule))
          (sym (own-by past x true e)) (here (sym (reason-sound past x g) ∙ e))
      by true e (Some why) g rest = absurd (let n = reason-fault past x why g in cc (e, n))
