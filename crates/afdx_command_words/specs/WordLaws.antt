-- What words of `--interface` and `--left` say, word by word.
use Rattle.std.specs.Prelude.{ℕ, ◌≡◌, List, Option, Some, None, codes}
use Rattle.afdx_frame.specs.declared.link.Side.{Side}
use Rattle.afdx_frame.specs.declared.link.Side.TheVariants.{A, B}
use Rattle.afdx_command_words.specs.PlaceSaid.{IsWord, Spot}

-- a spot with these parts
abbrev pub spot_with : Side → Option (List ℕ) → Option ℕ → Option Spot
spot_with side switch port = Some (record { side = side; switch = switch; port = port })

-- a word says one thing at most
abbrev pub SaysOneThing : Type 0
SaysOneThing = (word : List ℕ) (k j : ℕ) (spot other : Option Spot) →
    IsWord word k spot → IsWord word j other → (k ≡ j) × (spot ≡ other)

-- what some words say
pub record SomeWords : Type 0 where
  pub port : IsWord (codes "0=A:1") 0 (spot_with A None (Some 1))
  pub side : IsWord (codes "4095=B") 4095 (spot_with B None None)
  pub switch : IsWord (codes "12=A fwd") 12 (spot_with A (Some (codes "fwd")) None)
  pub switch_port : IsWord (codes "0=B fwd:24") 0 (spot_with B (Some (codes "fwd")) (Some 24))
  pub zeros : IsWord (codes "0007=A:01") 7 (spot_with A None (Some 1))
  pub left_out : IsWord (codes "3=-") 3 None

-- a word says nothing
abbrev pub SaysNothing : List ℕ → Type 0
SaysNothing word = (k : ℕ) (spot : Option Spot) → IsWord word k spot → ⊥

-- some words that say nothing
pub record OtherWords : Type 0 where
  pub high : SaysNothing (codes "4096=A")
  pub long : SaysNothing (codes "00001=A")
  pub sign : SaysNothing (codes "+1=A")
  pub no_place : SaysNothing (codes "1=")
  pub other_side : SaysNothing (codes "1=C")
  pub high_port : SaysNothing (codes "1=A:25")
  pub no_port : SaysNothing (codes "1=A:")
  pub no_name : SaysNothing (codes "1=A ")
