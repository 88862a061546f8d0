-- What stands next, by the lengths that are told.
use Rattle.std.proofs.Common.{◌≡◌, Bool, true, false, eqb, ltb, ℕ, ◌+◌, ◌<◌, ◌≤◌, cond}
use Rattle.std.proofs.Common.{List, length, take, refl, arith, Option, Some, None}
use Rattle.afdx_input_lines.specs.declared.recording_fault.RecordingFault.TheVariants.{Damaged, Ended}
use Rattle.afdx_input_files.specs.Recordings.{Step, Ends, Takes, Over, Faulted, Meaning, Wrong, Says}
use Rattle.afdx_input_files.specs.Recordings.{by_meaning, with_first, by_length, next_block}

-- a block that is taken has some bytes, which are there
abbrev pub IsWithin : List ℕ → Step → Type 0
IsWithin bytes (Ends ending) = Unit {0}
IsWithin bytes (Takes n state item) = (0 < n) × (n ≤ length bytes)

with_first-within : (n : ℕ) (bytes : List ℕ) (k : ℕ) (says : List ℕ → Step)
    → (n ≤ length bytes → IsWithin bytes (says (take n bytes))) → IsWithin bytes (with_first n bytes k says)
with_first-within n bytes k says h = by (ltb (length bytes) n) refl
  where
    by : (b : Bool) → ltb (length bytes) n ≡ b
        → IsWithin bytes (cond b (Ends (Faulted (Ended k))) (says (take n bytes)))
    by true e = tt
    by false e = h (grind (arith, e))

by_meaning-within : (n : ℕ) (bytes : List ℕ) (meaning : Meaning) → 0 < n → n ≤ length bytes
    → IsWithin bytes (by_meaning n meaning)
by_meaning-within n bytes (Wrong fault) some within = tt
by_meaning-within n bytes (Says state item) some within = (some, within)

by_length-within : (n : ℕ) (following : Option ℕ) (meaning : List ℕ → Meaning) (k : ℕ) (bytes : List ℕ)
    → 0 < n → IsWithin bytes (by_length n following meaning k bytes)
by_length-within n None meaning k bytes some = tt
by_length-within n (Some more) meaning k bytes some =
    with_first-within (n + more) bytes k (λ whole. by_meaning (n + more) (meaning whole))
    (λ within. by_meaning-within (n + more) bytes (meaning (take (n + more) bytes)) (omega arith) within)

pub next_block-within : (n : ℕ) (following : List ℕ → Option ℕ) (meaning : List ℕ → Meaning) (k : ℕ)
    (bytes : List ℕ) → 0 < n → IsWithin bytes (next_block n following meaning k bytes)
unfolding next_block
next_block-within n following meaning k bytes some = by (eqb (length bytes) 0) refl
  where
    by : (b : Bool) → eqb (length bytes) 0 ≡ b → IsWithin bytes (cond b (Ends Over)
        (with_first n bytes k (λ head. by_length n (following head) meaning k bytes)))
    by true e = tt
    by false e = with_first-within n bytes k (λ head. by_length n (following head) meaning k bytes)
        (λ _. by_length-within n (following (take n bytes)) meaning k bytes some)

pub not_less : (a b : ℕ) → b ≤ a → ltb a b ≡ false
not_less a b h = grind arith

pub less : (a b : ℕ) → a < b → ltb a b ≡ true
less a b h = grind arith

not_none : (a : ℕ) → 0 < a → eqb a 0 ≡ false
not_none a h = grind arith

-- the block stands whole
pub next_block-whole : (n : ℕ) (following : List ℕ → Option ℕ) (meaning : List ℕ → Meaning) (k : ℕ)
    (bytes : List ℕ) (more : ℕ) → 0 < n → following (take n bytes) ≡ Some more → n + more ≤ length bytes
    → next_block n following meaning k bytes ≡ by_meaning (n + more) (meaning (take (n + more) bytes))
unfolding next_block
next_block-whole n following meaning k bytes more some told within =
    rw (
      not_none (length bytes) (omega arith),
      not_less (length bytes) n (omega arith),
      told,
      not_less (length bytes) (n + more) within,
    ) refl

-- its head can't be right
pub next_block-wrong : (n : ℕ) (following : List ℕ → Option ℕ) (meaning : List ℕ → Meaning) (k : ℕ)
    (bytes : List ℕ) → 0 < n → following (take n bytes) ≡ None → n ≤ length bytes
    → next_block n following meaning k bytes ≡ Ends (Faulted (Damaged k))
unfolding next_block
next_block-wrong n following meaning k bytes some told within =
    rw (not_none (length bytes) (omega arith), not_less (length bytes) n within, told) refl

-- less than a head is there
pub next_block-short : (n : ℕ) (following : List ℕ → Option ℕ) (meaning : List ℕ → Meaning) (k : ℕ)
    (bytes : List ℕ) → 0 < length bytes → length bytes < n
    → next_block n following meaning k bytes ≡ Ends (Faulted (Ended k))
unfolding next_block
next_block-short n following meaning k bytes some few =
    rw (not_none (length bytes) some, less (length bytes) n few) refl

-- less than the block is there
pub next_block-cut : (n : ℕ) (following : List ℕ → Option ℕ) (meaning : List ℕ → Meaning) (k : ℕ)
    (bytes : List ℕ) (more : ℕ) → 0 < n → following (take n bytes) ≡ Some more → n ≤ length bytes
    → length bytes < n + more
    → next_block n following meaning k bytes ≡ Ends (Faulted (Ended k))
unfolding next_block
next_block-cut n following meaning k bytes more some told within few =
    rw (
      not_none (length bytes) (omega arith),
      not_less (length bytes) n within,
      told,
      less (length bytes) (n + more) few,
    ) refl

-- nothing is there
pub next_block-over : (n : ℕ) (following : List ℕ → Option ℕ) (meaning : List ℕ → Meaning) (k : ℕ)
    (bytes : List ℕ) → length bytes ≡ 0 → next_block n following meaning k bytes ≡ Ends Over
unfolding next_block
next_block-over n following meaning k bytes none = rw none refl
