-- What the words of a command line say, by what their parser found of them.
use Rattle.std.specs.Prelude.{ℕ, ◌≡◌, ◌<◌, ◌^◌, Bool, true, false, List, [], Option, Some, None, codes, unwrap_or}
use Rattle.std.specs.Str.Parse.{IsNumeral, digits_value, without_leading_plus}
use Rattle.std.specs.Option.{option_map_or}
use Rattle.clap.specs.Words.{matched_of, one_text, raw_values}
use Rattle.clap.specs.declared.parser.matches.Found.{Found}

-- the number that a text writes in decimal digits
abbrev pub number_in : List ℕ → ℕ
number_in text = digits_value 10 (without_leading_plus text)

-- a text writes a number of at most 64 bits
abbrev pub IsNumber : List ℕ → Type 0
IsNumber text = IsNumeral 10 (without_leading_plus text) × (number_in text < 2 ^ 64)

-- a text writes this number, or none
abbrev pub Writes : List ℕ → Option ℕ → Type 0
Writes text (Some number) = IsNumber text × (number ≡ number_in text)
Writes text None = IsNumber text → ⊥

-- the words of the option of this name, in their order: none, if it isn't given
abbrev pub words_of : Found → (name : List ℕ) → List (List ℕ)
words_of found name = option_map_or raw_values (matched_of found name) []

-- of the option of this name
module _ (found : Found) (name : List ℕ) where
  -- its number, if it is given
  pub record SaysNumber (number : Option ℕ) : Type 0 where
    pub absent : one_text found name ≡ None → number ≡ None
    pub given : (text : List ℕ) → one_text found name ≡ Some text → Writes text number

  -- the same, and 0 where it isn't given
  abbrev pub SaysOrZero : ℕ → Type 0
  SaysOrZero number = (said : Option ℕ) × SaysNumber said × (number ≡ unwrap_or said 0)

  -- whether it is given, of one that has no value
  pub record SaysFlag (is_given : Bool) : Type 0 where
    pub absent : one_text found name ≡ None → is_given ≡ false
    pub given : one_text found name ≡ Some (codes "true") → is_given ≡ true
    pub denied : one_text found name ≡ Some (codes "false") → is_given ≡ false
