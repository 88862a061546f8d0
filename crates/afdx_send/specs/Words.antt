-- Why a message is refused, in a word: that of its row, which stands at its place.
use Rattle.std.specs.Prelude.{ℕ, ◌≡◌, List, [], ◌∷◌, codes, map, slice_index_or}
use Rattle.afdx_send.specs.contracts.fault.SendFault.{the_type}
use Rattle.afdx_send.specs.declared.fault.SendFault.{SendFault}
use Rattle.afdx_send.specs.declared.fault.TheConstants.{SEND_FAULTS}
use denote.Enum.Declared.{tag_of}

-- the words of the table, in their order
unfoldable pub refusal_words : List (List ℕ)
refusal_words = map (λ row. row.1.now) SEND_FAULTS

abbrev pub refusal_word : SendFault → List ℕ
refusal_word fault = slice_index_or refusal_words (tag_of the_type fault) []

-- the words that the formats fix, in the order of `SendFault`
abbrev pub TheRefusalWords : Type 0
TheRefusalWords = refusal_words
    ≡ codes "S1" ∷ codes "S2" ∷ codes "S3" ∷ codes "S4" ∷ codes "S5" ∷ codes "S6" ∷ []
