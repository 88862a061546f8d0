-- Lines of text by their form.
use Rattle.std.specs.Prelude.{ℕ, ◌==◌, Bool, true, false, ◌&&◌, List, [], ◌∷◌, length, not, codes, Option, Some, None, if◌then◌else◌}
use Rattle.std.specs.List.{slice_split, list_any}
use Rattle.std.specs.Str.{bytes_eq}
use Rattle.afdx_input_lines.specs.Splitting.{all_digits, between_spaces}

-- `|`
abbrev pub bar : ℕ
bar = 124

-- the words that stand between bars
abbrev pub between_bars : List ℕ → List (List ℕ)
between_bars text = slice_split (λ byte. byte == bar) text

abbrev pub is_empty : List ℕ → Bool
is_empty text = length text == 0

-- A word of a form stands for the word itself, or for each of several between bars; `n` stands for
-- a whole number, `*` for any word, `?` for the word that the row of a table is about.
unfoldable pub stands_for : (own wanted word : List ℕ) → Bool
stands_for own wanted word =
    if bytes_eq wanted (codes "n") then not (is_empty word) && all_digits word
    else if bytes_eq wanted (codes "*") then not (is_empty word)
    else if bytes_eq wanted (codes "?") then bytes_eq word own
    else list_any (bytes_eq word) (between_bars wanted)

-- as many words, each at its place
abbrev pub all_stand_for : (own : List ℕ) (wanted words : List (List ℕ)) → Bool
all_stand_for own [] [] = true
all_stand_for own [] (word ∷ words) = false
all_stand_for own (one ∷ wanted) [] = false
all_stand_for own (one ∷ wanted) (word ∷ words) =
    stands_for own one word && all_stand_for own wanted words

-- the words of the line, one space apart, are those of the form
abbrev pub has_form : (own line form : List ℕ) → Bool
has_form own line form = all_stand_for own (between_spaces form) (between_spaces line)

-- the second word of a form, which is its name, alone or behind its first one
abbrev pub is_named : (own : List ℕ) (wanted words : List (List ℕ)) → Bool
is_named own (kind ∷ name ∷ wanted) (word ∷ []) = stands_for own name word
is_named own (kind ∷ name ∷ wanted) (first ∷ second ∷ []) =
    stands_for own kind first && stands_for own name second
is_named own wanted words = false

abbrev pub has_name : (own line form : List ℕ) → Bool
has_name own line form = is_named own (between_spaces form) (between_spaces line)

-- `\n`
abbrev pub feed : ℕ
feed = 10

-- the forms of an entry, which stand on a line each
abbrev pub between_feeds : List ℕ → List (List ℕ)
between_feeds text = slice_split (λ byte. byte == feed) text

unfoldable pub has_some_form : (own line forms : List ℕ) → Bool
has_some_form own line forms = list_any (has_form own line) (between_feeds forms)

-- the forms of a line, and what a line means that has one of them
abbrev pub Entry : Type 0
Entry = List ℕ × List ℕ

-- what the first entry says that has a form of the line
abbrev pub text_among : List Entry → (line : List ℕ) → Option (List ℕ)
text_among [] line = None
text_among (entry ∷ entries) line =
    if has_some_form [] line entry.0 then Some entry.1 else text_among entries line

-- what the first entry says whose form has this name
abbrev pub named_among : List Entry → (line : List ℕ) → Option (List ℕ)
named_among [] line = None
named_among (entry ∷ entries) line =
    if has_name [] line entry.0 then Some entry.1 else named_among entries line

-- a word of a closed list, and what it means
abbrev pub Row : Type 0
Row = List ℕ × List ℕ

-- what the first row says in whose word the line has one of these forms
abbrev pub row_among : (forms : List ℕ) → List Row → (line : List ℕ) → Option (List ℕ)
row_among forms [] line = None
row_among forms (row ∷ rows) line =
    if has_some_form row.0 line forms then Some row.1 else row_among forms rows line

-- a word, the forms of the lines that it stands in, and what such a line means
pub record FormedRow : Type 0 where
  pub word : List ℕ
  pub forms : List ℕ
  pub text : List ℕ

abbrev pub formed_row : (word forms text : List ℕ) → FormedRow
formed_row word forms text = record { word = word; forms = forms; text = text }

-- what the first row says that has a form of the line
abbrev pub formed_among : List FormedRow → (line : List ℕ) → Option (List ℕ)
formed_among [] line = None
formed_among (row ∷ rows) line =
    if has_some_form row.word line row.forms then Some row.text else formed_among rows line

-- what the first row says whose form has this name
abbrev pub named_row : List FormedRow → (line : List ℕ) → Option (List ℕ)
named_row [] line = None
named_row (row ∷ rows) line =
    if has_name row.word line row.forms then Some row.text else named_row rows line
