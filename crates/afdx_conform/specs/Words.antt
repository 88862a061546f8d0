-- Why a frame that left is strange, in a word.
use Rattle.std.specs.Prelude.{ℕ, ◌≡◌, List, [], ◌∷◌, codes, map, slice_index_or}
use Rattle.afdx_police.specs.Words.{reason_word}
use Rattle.afdx_conform.specs.declared.strangeness.Strangeness.{Strangeness}
use Rattle.afdx_conform.specs.declared.strangeness.Strangeness.TheVariants.{Shape, NotItsPort}
use Rattle.afdx_conform.specs.declared.strangeness.Strangeness.TheVariants.{OutOfTurn, NoArrival}
use Rattle.afdx_conform.specs.declared.strangeness.TheConstants.{STRANGE_REASONS}

-- the reasons that aren't of the tables, in their order, and their words
unfoldable pub own_reasons : List Strangeness
own_reasons = map (λ row. row.0) STRANGE_REASONS

unfoldable pub own_words : List (List ℕ)
own_words = map (λ row. row.1.now) STRANGE_REASONS

abbrev pub own_word : ℕ → List ℕ
own_word place = slice_index_or own_words place []

-- the others are in the words of the reasons to drop an arrival
abbrev pub strange_word : Strangeness → List ℕ
strange_word (Shape reason) = reason_word reason
strange_word NotItsPort = own_word 0
strange_word OutOfTurn = own_word 1
strange_word NoArrival = own_word 2

-- the words that the formats fix
abbrev pub TheStrangeWords : Type 0
TheStrangeWords = own_words
    ≡ codes "not-its-port" ∷ codes "out-of-turn" ∷ codes "no-arrival" ∷ []
