-- Forms and lines of which one has more words than the other.
use Rattle.std.proofs.Common.{◌≡◌, ℕ, ◌<◌, Bool, false, List, [], ◌∷◌, length, refl, arith}
use Rattle.std.specs.List.{slice_split}
use Rattle.std.proofs.lemmas.List.Splits.{length-slice_split}
use Rattle.afdx_explain.specs.Forms.{all_stand_for, is_named}

too_many-some : (own : List ℕ) (words : List (List ℕ)) → 0 < length words → all_stand_for own [] words ≡ false
too_many-some own [] some = absurd (omega arith)
too_many-some own (word ∷ words) some = refl

too_few-some : (own : List ℕ) (wanted : List (List ℕ)) → 0 < length wanted → all_stand_for own wanted [] ≡ false
too_few-some own [] some = absurd (omega arith)
too_few-some own (one ∷ wanted) some = refl

-- a text has at least one word
pub too_many : (own : List ℕ) (p : ℕ → Bool) (line : List ℕ) → all_stand_for own [] (slice_split p line) ≡ false
too_many own p line = too_many-some own (slice_split p line) (omega (arith, length-slice_split p line))

pub too_few : (own : List ℕ) (p : ℕ → Bool) (form : List ℕ) → all_stand_for own (slice_split p form) [] ≡ false
too_few own p form = too_few-some own (slice_split p form) (omega (arith, length-slice_split p form))

three_words-some : (own kind name : List ℕ) (wanted : List (List ℕ)) (first second : List ℕ) (words : List (List ℕ))
    → 0 < length words → is_named own (kind ∷ name ∷ wanted) (first ∷ second ∷ words) ≡ false
three_words-some own kind name wanted first second [] some = absurd (omega arith)
three_words-some own kind name wanted first second (word ∷ words) some = refl

-- a line of three words and more is no name
pub three_words : (own kind name : List ℕ) (wanted : List (List ℕ)) (first second : List ℕ)
    (p : ℕ → Bool) (rest : List ℕ)
    → is_named own (kind ∷ name ∷ wanted) (first ∷ second ∷ slice_split p rest) ≡ false
three_words own kind name wanted first second p rest =
    three_words-some own kind name wanted first second (slice_split p rest) (omega (arith, length-slice_split p rest))
