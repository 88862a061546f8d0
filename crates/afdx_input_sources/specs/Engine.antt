-- What a run hands from a source to a machine, and what it answers.
use Rattle.std.specs.Prelude.{ℕ, ◌⊎◌, List, [], ◌∷◌, Option, Result, Ok, Err}
use Rattle.afdx_input_lines.specs.declared.fault.RunFault.{RunFault}
use Rattle.afdx_text.specs.Sinks.{IsOfOutput}

-- something that a source gave: its heading and its bytes, under its number
pub record Item (H : Type 0) : Type 0 where
  pub number : ℕ
  pub head : H
  pub bytes : List ℕ

abbrev pub item_of : {H : Type 0} → ℕ → H → List ℕ → Item H
item_of number head bytes = record { number = number; head = head; bytes = bytes }

-- each item of which this holds can be told
abbrev pub CanTell : {H : Type 0} → (holds can : Item H → Type 0) → Type 0
CanTell {H} holds can = (item : Item H) → holds item → can item

-- each item can be told
abbrev pub CanAll : {H : Type 0} → (can : Item H → Type 0) → Type 0
CanAll {H} can = (item : Item H) → can item

-- the bytes of a device, where they are known
abbrev pub Bytes : Type 0
Bytes = Option (List ℕ)

-- these items but the newest
abbrev pub without_newest : {H : Type 0} → List (Item H) → List (Item H)
without_newest [] = []
without_newest (x ∷ past) = past

-- What a run answers. Ok: the source ended after some items, and the machine told them to the end.
-- A fault is the source's, and all before it is told; or the output's, and of what the source gave
-- a beginning is told.
abbrev pub Runs : {H A : Type 0} → (gave ended done told begins : List (Item H) → Type 0) →
    (stopped : List (Item H) → RunFault → Type 0) → Result A RunFault → Type 0
Runs {H} gave ended done told begins stopped (Ok _) =
    (past : List (Item H)) × ended past × done past
Runs {H} gave ended done told begins stopped (Err fault) =
    (past : List (Item H)) × ((stopped past fault × told past)
    ⊎ (IsOfOutput fault × (gave past ⊎ ended past) × (begins past ⊎ begins (without_newest past))))

-- ---- a machine

module _ {H Rules M : Type 0} (Can : Rules → Item H → Type 0)
    (Told : Rules → M → (start written : Bytes) → List (Item H) → Type 0) where
  -- by some rules it told nothing yet, behind what the output holds, and it can tell each item of
  -- which `given` is true
  abbrev pub IsReadyFor : M → (output : Bytes) → (given : Item H → Type 0) → Type 0
  IsReadyFor machine output given =
      (rules : Rules) × Told rules machine output output [] × CanTell given (Can rules)

  -- or each item
  abbrev pub IsReadyForAll : M → (output : Bytes) → Type 0
  IsReadyForAll machine output =
      (rules : Rules) × Told rules machine output output [] × CanAll (Can rules)

-- what it can tell by its rules, and how much it told of items: with all that is told at the end,
-- all of them, or a beginning of that
module _ {H Rules M : Type 0} (Can : Rules → Item H → Type 0)
    (Done Told Begins : Rules → M → (start written : Bytes) → List (Item H) → Type 0) where
  -- The machine `old` becomes `new`, and the output, which held `start`, then holds `written`. By
  -- whatever rules it told nothing yet, and can tell each item of which `given` is true: `holds` is
  -- true of what it told by them, which is of items all to the end, all so far, or a beginning.
  abbrev pub HoldsOfTold : (old new : M) → (start written : Bytes) → (given : Item H → Type 0) →
      (holds : (done told begins : List (Item H) → Type 0) → Type 0) → Type 0
  HoldsOfTold old new start written given holds =
      (rules : Rules) → Told rules old start start [] → CanTell given (Can rules) →
      holds (Done rules new start written) (Told rules new start written)
      (Begins rules new start written)

  -- the same by rules by which it can tell each item
  abbrev pub HoldsOfAllTold : (old new : M) → (start written : Bytes) →
      (holds : (done told begins : List (Item H) → Type 0) → Type 0) → Type 0
  HoldsOfAllTold old new start written holds =
      (rules : Rules) → Told rules old start start [] → CanAll (Can rules) →
      holds (Done rules new start written) (Told rules new start written)
      (Begins rules new start written)
