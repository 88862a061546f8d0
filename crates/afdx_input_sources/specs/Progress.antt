-- How far a run has read its list, whatever kind of list it is.
use Rattle.std.specs.Prelude.{ℕ, ◌≡◌, ◌≤◌, List, length, drop, Option, Some, None, ⊤}
use Rattle.afdx_input_lines.specs.Lines.{lines_of}
use Rattle.afdx_input_sources.specs.Lists.{Kind, HaveNoFault, items_of, latest_in}

module _ {Y X : Type 0} (k : Kind Y X) where
  -- the first n of these lines were read, they say these things, and `rest` is left
  pub record HasRead (past : List X) (latest n : ℕ)
      (lines : List (List ℕ)) (rest : List ℕ) : Type 0 where
    pub within : n ≤ length lines
    pub rest_is : lines_of rest ≡ drop n lines
    pub sound : HaveNoFault k lines n
    pub latest_is : latest ≡ latest_in k past
    pub said : items_of k lines n ≡ past

  -- the same, where the input's bytes are known
  abbrev pub HasComeIn : List X → ℕ → ℕ → Option (List ℕ) → Option (List ℕ) → Type 0
  HasComeIn past latest n None left = ⊤
  HasComeIn past latest n (Some bytes) None = ⊥
  HasComeIn past latest n (Some bytes) (Some rest) = HasRead past latest n (lines_of bytes) rest
