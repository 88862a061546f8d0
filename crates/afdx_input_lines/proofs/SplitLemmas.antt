-- The first field of a text.
use Rattle.std.proofs.Common.{◌≡◌, ℕ, ◌+◌, ◌-◌, ◌<◌, List, [], ◌∷◌, ◌++◌, length, get_or, take}
use Rattle.std.proofs.Common.{drop, Bool, true, false, refl, ap, ◌∙◌, arith, eqb, Some, None}
use Rattle.std.proofs.Common.{drop-cons, ◌⊎◌, ◌≤◌, inl, inr, subst}
use Rattle.std.specs.List.{slice_split, All}
use Rattle.std.proofs.lemmas.Bool.{cases_lt}
use Rattle.std.proofs.lemmas.List.{take-append-drop, get_or-take, get_or-drop, length-take-le, length-drop}
use Rattle.std.proofs.lemmas.List.Splits.{slice_split_at, slice_split_none}
use Rattle.std.proofs.lemmas.Grind.{common_steps}
use Rattle.memchr.specs.Find.{IsFirstByte, Nowhere, Passes, is_byte}

not_true : (b : Bool) → (b ≡ true → ⊥) → b ≡ false
not_true true h = absurd (h refl)
not_true false h = refl

get_or-within : (xs : List ℕ) (k d e : ℕ) → k < length xs → get_or xs k d ≡ get_or xs k e
get_or-within xs k d e h = grind (arith, common_steps)

-- what stands before the first such byte, and after it
pub piece_before : (b : ℕ) (text : List ℕ) (at : ℕ) → IsFirstByte (is_byte b) text (Some at)
    → All (λ byte. eqb byte b ≡ false) (take at text)
    × (text ≡ take at text ++ b ∷ drop (at + 1) text) × (at < length text)
piece_before b text at h =
    let below : at < length text = h.0.high in
    let found : get_or text at 0 ≡ b = grind (arith, common_steps, h.1) in (
      λ k d lt. let at_k : k < at = grind (arith, common_steps) in
          rw (get_or-take at text k d at_k)
          (rw (get_or-within text k d 0 (omega arith))
          (not_true _ (h.0.before k (omega arith) at_k))),
      grind (arith, common_steps, found, take-append-drop at text, drop-cons text at 0 below),
      below,
    )

pub no_such_byte : (b : ℕ) (text : List ℕ) → IsFirstByte (is_byte b) text None
    → All (λ byte. eqb byte b ≡ false) text
no_such_byte b text h =
    λ k d lt. rw (get_or-within text k d 0 lt) (not_true _ (h k (omega arith) lt))

-- the first part ends at the first such byte
pub split_at_byte : (b : ℕ) (text : List ℕ) (at : ℕ) → IsFirstByte (is_byte b) text (Some at)
    → slice_split (λ byte. eqb byte b) text ≡ take at text
    ∷ slice_split (λ byte. eqb byte b) (take (length text - (at + 1)) (drop (at + 1) text))
split_at_byte b text at h =
    let cut = piece_before b text at h in
    let rest : take (length text - (at + 1)) (drop (at + 1) text) ≡ drop (at + 1) text =
    grind (arith, common_steps) in
    rw rest (ap (slice_split (λ byte. eqb byte b)) cut.1
    ∙ slice_split_at (λ byte. eqb byte b) (take at text) b (drop (at + 1) text) cut.0
    (grind (arith, common_steps)))

pub split_at_none : (b : ℕ) (text : List ℕ) → IsFirstByte (is_byte b) text None
    → slice_split (λ byte. eqb byte b) text ≡ text ∷ []
split_at_none b text h = slice_split_none (λ byte. eqb byte b) text (no_such_byte b text h)

front_passes : (b n : ℕ) (text : List ℕ) (k : ℕ) → k < n → eqb (get_or text k 0) b ≡ true
    → eqb (get_or (take n text) k 0) b ≡ true
front_passes b n text k h passes = rw (get_or-take n text k 0 h) passes

back_passes : (b n : ℕ) (text : List ℕ) (k : ℕ) → n ≤ k → eqb (get_or text k 0) b ≡ true
    → eqb (get_or (drop n text) (k - n) 0) b ≡ true
back_passes b n text k h passes =
    let place : n + (k - n) ≡ k = omega (arith, h) in
    rw (get_or-drop n text (k - n) 0) (rw place passes)

-- up to a place there is no such byte, if there is none in a front, nor behind it
nowhere_by_parts : (b n : ℕ) (text : List ℕ) (m : ℕ) → n ≤ length text
    → IsFirstByte (is_byte b) (take n text) None
    → Nowhere (Passes (is_byte b) (drop n text)) 0 m → Nowhere (Passes (is_byte b) text) 0 (n + m)
nowhere_by_parts b n text m within front back k low high passes = by (cases_lt k n)
  where
    by : (k < n) ⊎ (n ≤ k) → ⊥
    by (inl h) = front k (omega arith) (omega (arith, h, length-take-le n text within))
        (front_passes b n text k h passes)
    by (inr h) = back (k - n) (omega arith) (omega (arith, h, high)) (back_passes b n text k h passes)

-- the first such byte is behind a front
pub found_behind : (b n : ℕ) (text : List ℕ) (k : ℕ) → n ≤ length text
    → IsFirstByte (is_byte b) (take n text) None
    → IsFirstByte (is_byte b) (take (length text - n) (drop n text)) (Some k)
    → IsFirstByte (is_byte b) text (Some (n + k))
found_behind b n text k within front back =
    let rest : take (length text - n) (drop n text) ≡ drop n text = grind (arith, common_steps) in
    let found = subst (λ (bytes : List ℕ). IsFirstByte (is_byte b) bytes (Some k)) rest back in (
      record {
        low = omega arith;
        high = omega (arith, within, found.0.high, length-drop n text);
        before = nowhere_by_parts b n text k within front found.0.before;
      },
      rw (get_or-drop n text k 0) at found.1,
    )

-- there is no such byte, if there is none in a front, nor behind it
pub none_by_parts : (b n : ℕ) (text : List ℕ) → n ≤ length text
    → IsFirstByte (is_byte b) (take n text) None
    → IsFirstByte (is_byte b) (take (length text - n) (drop n text)) None
    → IsFirstByte (is_byte b) text None
none_by_parts b n text within front back =
    let rest : take (length text - n) (drop n text) ≡ drop n text = grind (arith, common_steps) in
    let none = subst (λ (bytes : List ℕ). IsFirstByte (is_byte b) bytes None) rest back in
    let size : n + length (drop n text) ≡ length text = omega (arith, within, length-drop n text) in
    subst (λ (m : ℕ). Nowhere (Passes (is_byte b) text) 0 m) size
    (nowhere_by_parts b n text (length (drop n text)) within front none)
