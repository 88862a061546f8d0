-- The lines of a list, and how a reader takes them from what it holds and what its input has left.
use Rattle.std.specs.Prelude.{ℕ, Bool, ◌==◌, ◌≡◌, ◌<◌, ◌≤◌, ◌+◌, ◌*◌, true, false, List, [], ◌∷◌, ◌++◌, length}
use Rattle.std.specs.Prelude.{take, drop, Option, Some, None, ⊤, IfSome, slice_range}
use Rattle.std.specs.List.{slice_split, All}
use Rattle.std.specs.Io.KnownBytes.{Consumes, prepend_known, IsAtEnd}
use Rattle.afdx_input_lines.specs.Letters.{line_feed}
use Rattle.afdx_input_lines.specs.declared.fault.RunFault.{RunFault}
use Rattle.afdx_input_lines.specs.declared.fault.RunFault.TheVariants.{TooManyLines, LineTooLong, Read}
use Rattle.afdx_input_lines.specs.declared.line_reader.LineReader.{LineReader}
use Rattle.afdx_input_lines.specs.declared.watched.Watched.{Watched}
use Rattle.afdx_input_lines.specs.Watching.{device_of, has_ended}

-- the parts but a last one with no byte
abbrev pub but_empty_last : List (List ℕ) → List (List ℕ)
but_empty_last [] = []
but_empty_last ([] ∷ []) = []
but_empty_last (part ∷ parts) = part ∷ but_empty_last parts

-- the parts but the last one
abbrev pub but_last : List (List ℕ) → List (List ℕ)
but_last [] = []
but_last (part ∷ []) = []
but_last (part ∷ next ∷ parts) = part ∷ but_last (next ∷ parts)

-- the parts between line feeds
abbrev pub between_feeds : List ℕ → List (List ℕ)
between_feeds bytes = slice_split (λ byte. byte == line_feed) bytes

-- the lines of a list: each ends at a line feed, and a last one without it counts if it has a byte
unfoldable pub lines_of : List ℕ → List (List ℕ)
lines_of bytes = but_empty_last (between_feeds bytes)

-- the lines that end at a line feed
unfoldable pub whole_lines_of : List ℕ → List (List ℕ)
whole_lines_of bytes = but_last (between_feeds bytes)

-- the whole lines of a beginning are the first of all the lines
abbrev pub WholeLinesAreFirst : Type 0
WholeLinesAreFirst = (front rest : List ℕ) →
    take (length (whole_lines_of front)) (lines_of (front ++ rest)) ≡ whole_lines_of front

-- the most lines of a list, blank ones and remarks counted
abbrev pub most_lines : ℕ
most_lines = 1000000

-- the most bytes of a line, without its line feed
abbrev pub longest_line : ℕ
longest_line = 4200

-- the most reads of a line: one for each of its bytes, and one for its line feed
abbrev pub reads_of_line : ℕ
reads_of_line = longest_line + 1

-- the most reads of a list: those of its lines, and the one that finds the end
abbrev pub most_reads : ℕ
most_reads = reads_of_line * most_lines + 1

-- no byte is a line feed
abbrev pub HasNoFeed : List ℕ → Type 0
HasNoFeed bytes = All (λ byte. (byte == line_feed) ≡ false) bytes

-- the first line feed of these bytes stands after n others
pub record IsFirstFeed (bytes : List ℕ) (n : ℕ) : Type 0 where
  pub no_feed : HasNoFeed (take n bytes)
  pub parts : bytes ≡ take n bytes ++ line_feed ∷ drop (n + 1) bytes
  pub within : n + 1 ≤ length bytes

-- what was read and not yet taken
unfoldable pub unread : LineReader → List ℕ
unread reader = slice_range reader.chunk.items reader.start reader.end

-- the line that was taken last
unfoldable pub latest_line : LineReader → List ℕ
latest_line reader = slice_range reader.chunk.items reader.line_start reader.line_end

-- how many lines were taken
abbrev pub lines_taken : LineReader → ℕ
lines_taken reader = reader.lines

-- what is left of the list, where it is known: what was read and not yet taken, then what the input
-- has left
abbrev pub left : {R : Type 0} → (R → Option (List ℕ)) → LineReader → Watched R → Option (List ℕ)
left remaining reader input = prepend_known (unread reader) (remaining (device_of input))

-- an input that gave its end has nothing left, where that is known
abbrev pub IsHonest : {R : Type 0} → (R → Option (List ℕ)) → Watched R → Type 0
IsHonest remaining input = has_ended input ≡ true → IsAtEnd (remaining (device_of input))

-- the first line of the known bytes was taken
abbrev pub TakesLine : Option (List ℕ) → Option (List ℕ) → List ℕ → Type 0
TakesLine None new line = ⊤
TakesLine (Some bytes) None line = ⊥
TakesLine (Some bytes) (Some rest) line = lines_of bytes ≡ line ∷ lines_of rest

-- the input's known bytes went from old to new, and of them and what was unread before, these were
-- taken
pub record TakesBytes (old new : Option (List ℕ)) (before after taken : List ℕ) : Type 0 where
  pub given : List ℕ
  pub consumed : Consumes old new given
  pub parts : before ++ given ≡ taken ++ after

-- the input gave n whole lines, and perhaps a beginning of one more
pub record GaveWhole (old new : Option (List ℕ)) (n : ℕ) : Type 0 where
  pub read : List ℕ
  pub consumed : Consumes old new read
  pub counted : n ≡ length (whole_lines_of read)

-- of all that the input gave, n whole lines were taken, and the others are unread; so are the lines
-- of whatever comes behind it
pub record HasTaken (old new : Option (List ℕ)) (unread : List ℕ) (n : ℕ) : Type 0 where
  pub read : List ℕ
  pub consumed : Consumes old new read
  pub counted : length (whole_lines_of read) ≡ n + length (whole_lines_of unread)
  pub lines : List (List ℕ)
  pub many : length lines ≡ n
  pub lines_are : (more : List ℕ) → lines_of (read ++ more) ≡ lines ++ lines_of (unread ++ more)

-- the first line of these bytes is longer than a line may be
abbrev pub BeginsTooLong : List ℕ → Type 0
BeginsTooLong bytes = (line : List ℕ) × (lines : List (List ℕ))
    × (lines_of bytes ≡ line ∷ lines) × (longest_line < length line)

-- the taking of a line from what is left, after n others, may stop with this fault
abbrev pub CanStop : RunFault → ℕ → Option (List ℕ) → Type 0
CanStop TooManyLines n left = (most_lines ≤ n) × IfSome left (λ bytes. 0 < length (lines_of bytes))
CanStop (LineTooLong m) n left =
    (m ≡ n + 1) × (n < most_lines) × IfSome left BeginsTooLong
CanStop Read n left = ⊤
CanStop _ n left = ⊥

-- what is unread shows this fault: a byte of a line too many, or more bytes than a line may have
abbrev pub ShowsFault : RunFault → List ℕ → Type 0
ShowsFault TooManyLines unread = 0 < length (lines_of unread)
ShowsFault (LineTooLong m) unread = BeginsTooLong unread
ShowsFault _ unread = ⊥

-- the taking of a line stops with a fault of the reading, or with one that what is unread shows;
-- then the input gave only what is unread now
abbrev pub StopsBy : RunFault → (old_ended new_ended : Bool) → (old new : Option (List ℕ)) →
    (before after : List ℕ) → Type 0
StopsBy Read old_ended new_ended old new before after = ⊤
StopsBy fault old_ended new_ended old new before after =
    (new_ended ≡ old_ended) × TakesBytes old new before after [] × ShowsFault fault after
