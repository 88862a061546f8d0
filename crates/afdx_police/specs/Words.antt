-- Each reason to drop an arrival, in a word, and what it means: the table of the code.
use Rattle.std.specs.Prelude.{ℕ, ◌≡◌, List, [], ◌∷◌, codes, map, slice_index_or}
use Rattle.afdx_police.specs.contracts.shape.Reason.{the_type}
use Rattle.afdx_police.specs.declared.shape.Reason.{Reason}
use Rattle.afdx_police.specs.declared.shape.TheConstants.{REASONS}
use denote.Enum.Declared.{tag_of}

unfoldable pub words : List (List ℕ)
words = map (λ row. row.1.now) REASONS

unfoldable pub meanings : List (List ℕ)
meanings = map (λ row. row.2.now) REASONS

-- each at the place of its reason
abbrev pub reason_word : Reason → List ℕ
reason_word reason = slice_index_or words (tag_of the_type reason) []

abbrev pub reason_meaning : Reason → List ℕ
reason_meaning reason = slice_index_or meanings (tag_of the_type reason) []

-- the words that the formats fix, in the order of `Reason`
abbrev pub TheWords : Type 0
TheWords = words
    ≡ codes "too-short" ∷ codes "too-long" ∷ codes "bad-fcs" ∷ codes "bad-address"
    ∷ codes "unknown-link" ∷ codes "wrong-port" ∷ codes "over-lmax" ∷ codes "under-lmin"
    ∷ codes "over-rate" ∷ []
