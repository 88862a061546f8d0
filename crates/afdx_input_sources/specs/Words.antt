-- Each reason to skip a number, in a word, and what it means: the table of the code; and the line
-- that counts them.
use Rattle.std.specs.Prelude.{ℕ, ◌≡◌, List, [], ◌∷◌, ◌++◌, map, slice_index_or, codes, decimal}
use Rattle.afdx_input_sources.specs.contracts.skipped.Skipped.{the_type}
use Rattle.afdx_input_sources.specs.declared.skipped.Skipped.{Skipped}
use Rattle.afdx_input_sources.specs.declared.skipped.TheConstants.{SKIPPED}
use Rattle.afdx_input_sources.specs.declared.counts.SkipCounts.{SkipCounts}
use Rattle.afdx_input_sources.specs.declared.counts.Tally.{Tally}
use denote.Enum.Declared.{tag_of}

unfoldable pub words : List (List ℕ)
words = map (λ row. row.1.now) SKIPPED

unfoldable pub meanings : List (List ℕ)
meanings = map (λ row. row.2.now) SKIPPED

-- each at the place of its reason
abbrev pub skipped_word : Skipped → List ℕ
skipped_word reason = slice_index_or words (tag_of the_type reason) []

abbrev pub skipped_meaning : Skipped → List ℕ
skipped_meaning reason = slice_index_or meanings (tag_of the_type reason) []

-- a word, a number, and what follows
abbrev pub counted : (word : List ℕ) → ℕ → (rest : List ℕ) → List ℕ
counted word n rest = word ++ (decimal n ++ rest)

-- how many were skipped for each reason
abbrev pub reasons_text : SkipCounts → List ℕ
reasons_text counts =
    counted (codes "no-frame ") counts.no_frame (counted (codes " left-out ") counts.left_out
    (counted (codes " not-afdx ") counts.not_afdx
    (counted (codes " unknown-sender ") counts.unknown_sender
    (counted (codes " no-network ") counts.no_network
    (codes " before-origin " ++ decimal counts.before_origin)))))

-- the counts of a recording in one line, without its line feed
abbrev pub skipped_line : Tally → List ℕ
skipped_line t =
    codes "skipped " ++ (reasons_text t.counts ++ (counted (codes " recorder-lost ") t.lost
    (counted (codes " claimed ") t.counts.claimed
    (counted (codes " contradicted ") t.counts.contradicted
    (codes " unused " ++ decimal t.unused)))))

-- the words that the formats fix, in the order of `Skipped`
abbrev pub TheWords : Type 0
TheWords = words
    ≡ codes "no-frame" ∷ codes "left-out" ∷ codes "not-afdx" ∷ codes "unknown-sender"
    ∷ codes "no-network" ∷ codes "before-origin" ∷ []
