-- What the window rule accepts of a link keeps a curve. Lists of charged frames have the newest first.
use Rattle.std.proofs.Common.{◌≡◌, ℕ, ◌+◌, ◌*◌, ◌-◌, ◌≤◌, ◌&&◌, true, List, [], ◌∷◌, ◌++◌, ◌⊎◌, inl}
use Rattle.std.proofs.Common.{inr, refl, arith, if◌then◌else◌}
use Rattle.std.specs.Prelude.{nat_le, IsTrue}
use Rattle.std.proofs.Math.Nat.{mul-le-mul_left}
use Rattle.std.proofs.lemmas.Bool.{cases_Bool, leb-true, and_parts}
use Rattle.afdx_frame.specs.Regulation.{Regulation, byte_units, fill_rate, cap}
use Rattle.afdx_police.specs.Account.{overdrawn, missing}
use Rattle.afdx_police.specs.Laws.{EachAccountMoves}
use Rattle.afdx_police.specs.Rule.{is_bag}
use Rattle.afdx_police.specs.Window.{Charged, fits, accepted_of}

-- what one frame is charged, if it came from `since` to `until`
abbrev pub charged_in : ℕ → ℕ → Charged → ℕ
charged_in since until x = if nat_le since x.time && nat_le x.time until then x.charge else 0

-- what is charged from `since` to `until`
abbrev pub charged_between : ℕ → ℕ → List Charged → ℕ
charged_between since until [] = 0
charged_between since until (x ∷ xs) = charged_in since until x + charged_between since until xs

pub between-append : (since until : ℕ) (xs ys : List Charged) →
    charged_between since until (xs ++ ys) ≡ charged_between since until xs + charged_between since until ys
between-append since until [] ys = omega arith
between-append since until (x ∷ xs) ys = let rest = between-append since until xs ys in omega (arith, rest)

-- a frame that came in the interval came within it
charged_in-some : (since until : ℕ) (x : Charged) →
    (charged_in since until x ≡ 0) ⊎ ((charged_in since until x ≡ x.charge) × (since ≤ x.time) × (x.time ≤ until))
charged_in-some since until x =
    elim (cases_Bool (nat_le since x.time && nat_le x.time until)) [
      | inr out ↦ inl (rw out refl)
      | inl counted ↦ (let times = and_parts (nat_le since x.time) (nat_le x.time until) counted in
          inr (rw counted refl, leb-true since x.time times.0, leb-true x.time until times.1))
    ]

-- what was charged since a moment is overdrawn, but for what was filled since, or nothing was
Overdraws : Regulation → ℕ → ℕ → ℕ → ℕ → List Charged → Type 0
Overdraws link since until now taken xs =
    (charged_between since until xs ≡ 0)
    ⊎ (byte_units * (taken + charged_between since until xs) ≤ overdrawn link xs taken now
    + fill_rate link * (now - since))

window-overdraws : (link : Regulation) (since until now taken : ℕ) (xs : List Charged) →
    Overdraws link since until now taken xs
unfolding Overdraws overdrawn
window-overdraws link since until now taken [] = inl refl
window-overdraws link since until now taken (x ∷ xs) =
    elim (charged_in-some since until x) [
      | inl none ↦ elim (window-overdraws link since until now (taken + x.charge) xs) [
        | inl nothing ↦ inl (omega (arith, none, nothing))
        | inr more ↦ inr (omega (arith, none, more))
      ]
      | inr counted ↦ (let own = counted.0 in
          let gap : fill_rate link * (now - x.time) ≤ fill_rate link * (now - since) =
          mul-le-mul_left (fill_rate link) (let from = counted.1 in omega
          (arith, from)) in
          elim (window-overdraws link since until now (taken + x.charge) xs) [
            | inl nothing ↦ inr (omega (arith, own, nothing, gap))
            | inr more ↦ inr (omega (arith, own, more))
          ])
    ]

-- what was charged since a moment is missing, but for what was filled since
pub window-missing : (link : Regulation) (since until now : ℕ) (xs : List Charged) →
    byte_units * charged_between since until xs ≤ missing link xs now + fill_rate link * (now - since)
unfolding Overdraws
window-missing link since until now xs =
    elim (window-overdraws link since until now 0 xs)
    [ inl nothing ↦ omega (arith, nothing) | inr more ↦ omega (arith, more) ]

-- the frames keep the link's curve
abbrev Keeps : Regulation → List Charged → Type 0
Keeps link xs = (since until : ℕ) → since ≤ until → byte_units * charged_between since until xs
    ≤ cap link + fill_rate link * (until - since)

keeps-next : EachAccountMoves → (link : Regulation) → IsTrue (is_bag link.bag_ms) →
    (xs : List Charged) (x : Charged) → Keeps link xs → fits link xs x ≡ true → Keeps link (x ∷ xs)
keeps-next moves link gap xs x keeps fit since until le =
    let room : missing link xs x.time + byte_units * x.charge ≤ cap link = ((moves link gap).room xs x).0 fit in
    elim (charged_in-some since until x) [
      | inl out ↦ (let old = keeps since until le in omega (arith, out, old))
      | inr counted ↦ (let own = counted.0 in
          let window = window-missing link since until x.time xs in
          let longer : fill_rate link * (x.time - since) ≤ fill_rate link * (until - since) =
          mul-le-mul_left (fill_rate link) (let to = counted.2 in omega
          (arith, to)) in
          omega (arith, own, window, longer, room))
    ]

pub accepted-keeps : EachAccountMoves → (link : Regulation) → IsTrue (is_bag link.bag_ms) →
    (came : List Charged) (since until : ℕ) → since ≤ until →
    byte_units * charged_between since until (accepted_of link came) ≤ cap link + fill_rate link * (until - since)
unfolding accepted_of
accepted-keeps moves link gap [] since until le = omega arith
accepted-keeps moves link gap (x ∷ past) since until le =
    elim (cases_Bool (fits link (accepted_of link past) x)) [
      | inl fit ↦ rw fit (keeps-next moves link gap (accepted_of link past) x
          (accepted-keeps moves link gap past) fit since until le)
      | inr refused ↦ rw refused (accepted-keeps moves link gap past since until le)
    ]
