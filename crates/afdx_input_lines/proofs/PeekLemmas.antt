-- What is left of a reader whose first bytes are looked at.
use Rattle.std.proofs.Common.{◌≡◌, ℕ, ◌+◌, ◌-◌, ◌≤◌, ◌<◌, min, List, [], ◌++◌, length, take, drop, Option, Some, None, IfSome, Result, Ok}
use Rattle.std.proofs.Common.{refl, sym, ap, ◌∙◌, ◌⊎◌, inl, inr, arith, append_assoc, slice_range}
use Rattle.std.proofs.lemmas.Grind.{common_steps}
use Rattle.std.proofs.lemmas.List.{append-nil, take_at, take-append-drop}
use Rattle.std.specs.Io.KnownBytes.{Consumes, IsAtEnd, Keeps, ReadConsumes, prepend_known}
use Rattle.std.proofs.KnownBytes.{prepend_known-nil, prepend_known-read, Keeps-refl}
use Rattle.afdx_input_lines.proofs.ReaderLemmas.{front_between, rest_between}

-- what a read gave is held
pub held-more : (a b : Option (List ℕ)) (old new given : List ℕ) → Consumes a b given → new ≡ old ++ given
    → Keeps (prepend_known old a) (prepend_known new b)
held-more None b old new given c e = tt
held-more (Some xs) None old new given c e = absurd c
held-more (Some xs) (Some ys) old new given c e =
    rw (e, c) (append_assoc old given ys)

-- it is all, or four bytes are held: so the first four are held
pub held-first : (a b : Option (List ℕ)) (held : List ℕ) (n : ℕ) → Keeps a (prepend_known held b)
    → length held ≤ n → IsAtEnd b ⊎ (length held ≡ n) → IfSome a (λ bytes. held ≡ take n bytes)
held-first None b held n k short h = tt
held-first (Some xs) None held n k short h = absurd k
held-first (Some xs) (Some ys) held n k short (inl end) =
    rw (← k, end) (grind (arith, common_steps, append-nil held))
held-first (Some xs) (Some ys) held n k short (inr full) =
    rw (← k) (sym (take_at held ys n full))

-- what was held is held
pub held-same : (a b : Option (List ℕ)) (old new : List ℕ) → Keeps a b → new ≡ old
    → Keeps (prepend_known old a) (prepend_known new b)
held-same None b old new k e = tt
held-same (Some xs) None old new k e = absurd k
held-same (Some xs) (Some ys) old new k e = rw (e, k) refl

from_zero : (xs : List ℕ) (n : ℕ) → slice_range xs 0 n ≡ take n xs
from_zero xs n = grind (arith, common_steps)

-- a read puts what it gives behind what is held
pub seen-more : (xs buf after : List ℕ) (start end count : ℕ) → start ≡ 0 → end ≤ length xs → count ≤ length buf
    → slice_range (take end xs ++ (buf ++ after)) start (end + count) ≡ slice_range xs start end ++ take count buf
seen-more xs buf after start end count zero within few =
    let front = take end xs ++ take count buf in
    let rest = drop count buf ++ after in
    let all : take end xs ++ (buf ++ after) ≡ front ++ rest =
    grind (arith, append_assoc, take-append-drop count buf) in
    let size : length front ≡ end + count = grind (arith, common_steps) in
    rw zero (from_zero (take end xs ++ (buf ++ after)) (end + count)
    ∙ ap (take (end + count)) all ∙ take_at front rest (end + count) size
    ∙ ap (λ (bytes : List ℕ). bytes ++ take count buf) (sym (from_zero xs end)))

-- and leaves that as it was
pub seen-same : (xs buf after : List ℕ) (start end : ℕ) → start ≡ 0 → end ≤ length xs
    → slice_range (take end xs ++ (buf ++ after)) start end ≡ slice_range xs start end
seen-same xs buf after start end zero within =
    let size : length (take end xs) ≡ end = grind (arith, common_steps) in
    rw zero (from_zero (take end xs ++ (buf ++ after)) end
    ∙ take_at (take end xs) (buf ++ after) end size ∙ sym (from_zero xs end))

-- nothing is held: a read is one of what stands behind it
pub none-held : {E : Type 0} (a b : Option (List ℕ)) (xs : List ℕ) (start end : ℕ) (r : Result ℕ E) (buf : List ℕ)
    → start ≡ end → ReadConsumes a b r buf
    → ReadConsumes (prepend_known (slice_range xs start end) a) (prepend_known (slice_range xs start end) b) r buf
none-held a b xs start end r buf e read =
    let none : slice_range xs start end ≡ [] = rw e (grind (arith, common_steps)) in
    rw (none, prepend_known-nil a, prepend_known-nil b) read

-- nothing was seen yet
pub none-seen : (xs : List ℕ) (start end : ℕ) → end ≡ 0 → length (slice_range xs start end) ≡ end
none-seen xs start end e = rw e (grind (arith, common_steps))

-- the first of what is held are given
pub held-given : (b : Option (List ℕ)) (xs : List ℕ) (start end n : ℕ) (buf given : List ℕ) → start ≤ end
    → (start ≡ end → ⊥) → n ≡ min (length buf) (end - start) → length given ≡ length (take n buf)
    → given ≡ take (start + n - start) (drop start xs)
    → ReadConsumes {E = Unit {0}} (prepend_known (slice_range xs start end) b)
    (prepend_known (slice_range xs (start + n) end) b) (Ok n) (given ++ drop n buf)
held-given b xs start end n buf given ordered some few size is =
    let within : n ≤ end - start = grind (arith, few) in
    let room : n ≤ length buf = grind (arith, few) in
    let long : length given ≡ n = grind (arith, common_steps, size, room) in
    let front : take n (given ++ drop n buf) ≡ take n (slice_range xs start end) =
    take_at given (drop n buf) n long ∙ is ∙ first_n xs start n ∙ front_between xs start end n within in
    let parts : slice_range xs start end ≡ take n (given ++ drop n buf) ++ slice_range xs (start + n) end =
    rw (front, rest_between xs start end n within) (sym (take-append-drop n (slice_range xs start end))) in (
      (prepend_known-read _ b (slice_range xs start end) (slice_range xs (start + n) end)
          (take n (given ++ drop n buf)) ⊥
          (Keeps-refl _) parts (λ no. absurd no)).0,
      λ none more. absurd (some (all_given start end n (length buf) (length (given ++ drop n buf)) ordered few none
          (grind (arith, common_steps, long, none)) more)),
    )
  where
    first_n : (xs : List ℕ) (start n : ℕ) → take (start + n - start) (drop start xs) ≡ slice_range xs start (start + n)
    first_n xs start n = refl

    all_given : (start end n size all : ℕ) → start ≤ end → n ≡ min size (end - start) → n ≡ 0 → all ≡ size → 0 < all
        → start ≡ end
    all_given start end n size all ordered few none same more = grind (arith, ordered, few, none, same, more)

-- so much is held then
pub seen-more-length : (xs buf after : List ℕ) (start end count : ℕ) → start ≡ 0 → end ≤ length xs
    → count ≤ length buf → length (slice_range (take end xs ++ (buf ++ after)) start (end + count)) ≡ end + count
seen-more-length xs buf after start end count zero within few =
    rw (seen-more xs buf after start end count zero within few, zero) (grind (arith, common_steps, within, few))

pub seen-same-length : (xs buf after : List ℕ) (start end : ℕ) → start ≡ 0 → end ≤ length xs
    → length (slice_range (take end xs ++ (buf ++ after)) start end) ≡ end
seen-same-length xs buf after start end zero within =
    rw (seen-same xs buf after start end zero within, zero) (grind (arith, common_steps, within))
