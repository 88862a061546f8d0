-- Places of a chunk, and what a read puts behind them.
use Rattle.std.proofs.Common.{◌≡◌, Bool, true, false, eqb, ltb, ◌&&◌, ◌||◌, ℕ, ◌+◌, ◌-◌, ◌<◌, ◌≤◌}
use Rattle.std.proofs.Common.{List, [], ◌++◌, length, take, drop, refl, ap, sym, ◌∙◌, arith}
use Rattle.std.proofs.Common.{slice_range, append_assoc}
use Rattle.std.proofs.lemmas.List.{drop-take, take-append-drop, take-take, take_at}
use Rattle.std.proofs.lemmas.Grind.{common_steps}
use Rattle.afdx_input_lines.specs.declared.line_reader.LineReader.{LineReader}
use Rattle.afdx_input_lines.specs.Lines.{unread, most_lines}

-- the first n of what stands between two places
pub front_between : (xs : List ℕ) (start end n : ℕ) → n ≤ end - start
    → slice_range xs start (start + n) ≡ take n (slice_range xs start end)
front_between xs start end n h = grind (arith, common_steps)

-- what follows the first n
pub rest_between : (xs : List ℕ) (start end n : ℕ) → n ≤ end - start
    → slice_range xs (start + n) end ≡ drop n (slice_range xs start end)
rest_between xs start end n h = grind (arith, common_steps, drop-take n (end - (start + n)) (drop start xs))

-- what was moved to the front stands there
pub moved_to_front : (xs ys : List ℕ) (start end : ℕ) → start ≤ end → end ≤ length xs
    → ys ≡ take (end - start) (drop start xs) ++ drop (0 + (end - start)) xs
    → slice_range ys 0 (end - start) ≡ slice_range xs start end
moved_to_front xs ys start end ordered within h = grind (arith, common_steps)

from_zero : (xs : List ℕ) (n : ℕ) → slice_range xs 0 n ≡ take n xs
from_zero xs n = grind (arith, common_steps)

-- what a read gave stands behind what was held
pub read_behind : (xs buf after more : List ℕ) (n held count : ℕ) → held ≤ length xs
    → held + count ≤ n → count ≤ length buf
    → slice_range (take n ((take held xs ++ (buf ++ after)) ++ more)) 0 (held + count)
    ≡ slice_range xs 0 held ++ take count buf
read_behind xs buf after more n held count long within few =
    let front = take held xs ++ take count buf in
    let rest = drop count buf ++ (after ++ more) in
    let all : (take held xs ++ (buf ++ after)) ++ more ≡ front ++ rest =
    grind (arith, append_assoc, take-append-drop count buf) in
    let size : length front ≡ held + count = grind (arith, common_steps) in
    from_zero (take n ((take held xs ++ (buf ++ after)) ++ more)) (held + count)
    ∙ take-take (held + count) n ((take held xs ++ (buf ++ after)) ++ more) within
    ∙ ap (take (held + count)) all
    ∙ take_at front rest (held + count) size
    ∙ ap (λ (bytes : List ℕ). bytes ++ take count buf) (sym (from_zero xs held))

-- what was held stays
pub kept_before : (xs buf after more : List ℕ) (n held : ℕ) → held ≤ length xs → held ≤ n
    → slice_range (take n ((take held xs ++ (buf ++ after)) ++ more)) 0 held ≡ slice_range xs 0 held
kept_before xs buf after more n held long within =
    let size : length (take held xs) ≡ held = grind (arith, common_steps) in
    from_zero (take n ((take held xs ++ (buf ++ after)) ++ more)) held
    ∙ take-take held n ((take held xs ++ (buf ++ after)) ++ more) within
    ∙ ap (take held) (append_assoc (take held xs) (buf ++ after) more)
    ∙ take_at (take held xs) ((buf ++ after) ++ more) held size
    ∙ sym (from_zero xs held)

pub unread_length : (reader : LineReader) → length (unread reader) ≡ reader.end - reader.start
unfolding unread
unread_length reader = grind (arith, common_steps, reader.within, reader.ordered, reader.chunk.ok.0)

-- what is unread of a reader whose unread bytes stand at the front
pub unread_from_front : (reader : LineReader) → reader.start ≡ 0
    → slice_range reader.chunk.items 0 reader.end ≡ unread reader
unfolding unread
unread_from_front reader h = rw h refl

-- room behind what is held
pub room_behind : (xs : List ℕ) (held : ℕ) → held ≤ length xs
    → length (take (length xs - held) (drop held xs)) ≡ length xs - held
room_behind xs held within = grind (arith, common_steps)

or_true : (b : Bool) → (b || true) ≡ true
or_true true = refl
or_true false = refl

-- a read into some room that gave no byte gave the end
pub gave_none : (ended : Bool) (count room : ℕ) → count ≡ 0 → 0 < room → (ended || (eqb count 0 && ltb 0 room)) ≡ true
gave_none ended count room none some = let b : ltb 0 room ≡ true = grind (arith, common_steps) in
    rw (none, b) (or_true ended)

-- not all lines were taken where a byte is held that may belong to one
pub few_lines : (lines start end held : ℕ) → (most_lines ≤ lines → start ≡ end) → held ≤ end - start
    → 0 < held → lines < most_lines
few_lines lines start end held full within some = grind (arith, full)

pub unread_nothing : (reader : LineReader) → reader.end - reader.start ≡ 0 → unread reader ≡ []
unfolding unread
unread_nothing reader h = rw h refl

pub all_taken : (bytes : List ℕ) (n : ℕ) → length bytes ≡ n → take n bytes ≡ bytes
all_taken bytes n h = grind (arith, common_steps)

pub none_after : (bytes : List ℕ) (n : ℕ) → length bytes ≡ n → drop (n + 0) bytes ≡ []
none_after bytes n h = grind (arith, common_steps)
