-- Lines taken from known bytes.
use Rattle.std.proofs.Common.{◌≡◌, ℕ, ◌+◌, ◌<◌, ◌≤◌, List, [], ◌∷◌, ◌++◌, length, take}
use Rattle.std.proofs.Common.{drop, Bool, true, false, cond, refl, ap, ◌∙◌, arith, eqb, Some, None}
use Rattle.std.proofs.Common.{subst}
use Rattle.std.specs.List.{slice_split, onto_first, All}
use Rattle.std.proofs.lemmas.List.{take-append-drop}
use Rattle.memchr.specs.Find.{IsFirstByte, is_byte}
use Rattle.std.proofs.lemmas.List.Splits.{slice_split_at, slice_split_none, slice_split-cons_yes, slice_split-cons_no}
use Rattle.std.proofs.lemmas.List.Elements.{All-append, All-head, All-tail}
use Rattle.std.proofs.lemmas.Grind.{common_steps}
use Rattle.afdx_input_lines.proofs.SplitLemmas.{piece_before, no_such_byte}
use Rattle.afdx_input_lines.specs.Lines.{lines_of, but_empty_last, HasNoFeed, IsFirstFeed}

-- a split has a first part
abbrev pub HasFirst : List (List ℕ) → Type 0
HasFirst parts = (first : List ℕ) × (more : List (List ℕ)) × (parts ≡ first ∷ more)

onto_first-has_first : (x : ℕ) (parts : List (List ℕ)) → HasFirst (onto_first x parts)
onto_first-has_first x [] = (x ∷ [], [], refl)
onto_first-has_first x (part ∷ parts) = (x ∷ part, parts, refl)

cond-has_first : (b : Bool) (xs ys : List (List ℕ)) → HasFirst xs → HasFirst ys → HasFirst (cond b xs ys)
cond-has_first true xs ys h k = h
cond-has_first false xs ys h k = k

pub slice_split-has_first : (p : ℕ → Bool) (xs : List ℕ) → HasFirst (slice_split p xs)
slice_split-has_first p [] = ([], [], refl)
slice_split-has_first p (x ∷ xs) =
    cond-has_first (p x) _ _ ([], slice_split p xs, refl) (onto_first-has_first x (slice_split p xs))

but_empty_last-next : (line next : List ℕ) (parts : List (List ℕ))
    → but_empty_last (line ∷ next ∷ parts) ≡ line ∷ but_empty_last (next ∷ parts)
but_empty_last-next [] next parts = refl
but_empty_last-next (x ∷ xs) next parts = refl

but_empty_last-cons : (line : List ℕ) (parts : List (List ℕ)) → HasFirst parts
    → but_empty_last (line ∷ parts) ≡ line ∷ but_empty_last parts
but_empty_last-cons line parts h = rw h.2 (but_empty_last-next line h.0 h.1)

-- a line with its line feed is the first line
pub lines_of_feed : (line rest : List ℕ) → HasNoFeed line → lines_of (line ++ 10 ∷ rest) ≡ line ∷ lines_of rest
unfolding lines_of
lines_of_feed line rest h =
    ap but_empty_last (slice_split_at (λ byte. eqb byte 10) line 10 rest h refl)
    ∙ but_empty_last-cons line (slice_split (λ byte. eqb byte 10) rest)
    (slice_split-has_first (λ byte. eqb byte 10) rest)

-- bytes with a line feed have one
feed-stands : (front rest : List ℕ) → HasNoFeed (front ++ 10 ∷ rest) → ⊥
feed-stands [] rest h = absurd (cc (All-head (λ (byte : ℕ). eqb byte 10 ≡ false) 10 rest h))
feed-stands (x ∷ xs) rest h = feed-stands xs rest (All-tail (λ (byte : ℕ). eqb byte 10 ≡ false) x (xs ++ 10 ∷ rest) h)

pub feed-or-none : (bytes : List ℕ) (n : ℕ) → IsFirstFeed bytes n → HasNoFeed bytes → ⊥
feed-or-none bytes n feed none =
    feed-stands (take n bytes) (drop (n + 1) bytes) (subst HasNoFeed feed.parts none)

but_empty_last-one : (line : List ℕ) → 0 < length line → but_empty_last (line ∷ []) ≡ line ∷ []
but_empty_last-one [] some = absurd (omega arith)
but_empty_last-one (x ∷ xs) some = refl

-- a last line without one is the only line
pub lines_of_last : (line : List ℕ) → HasNoFeed line → 0 < length line → lines_of line ≡ line ∷ []
unfolding lines_of
lines_of_last line h some = ap but_empty_last (slice_split_none (λ byte. eqb byte 10) line h)
    ∙ but_empty_last-one line some

pub lines_of_nothing : lines_of [] ≡ []
unfolding lines_of
lines_of_nothing = refl

-- bytes with no line feed at the front stand at the front of the first line
split_front : (p : ℕ → Bool) (part rest : List ℕ) → All (λ x. p x ≡ false) part → (first : List ℕ)
    × (more : List (List ℕ)) × (slice_split p (part ++ rest) ≡ (part ++ first) ∷ more)
split_front p [] rest h = slice_split-has_first p rest
split_front p (x ∷ xs) rest h =
    let later = split_front p xs rest (All-tail (λ y. p y ≡ false) x xs h) in
    (later.0, later.1, slice_split-cons_no p x (xs ++ rest) (All-head (λ y. p y ≡ false) x xs h) ∙ rw later.2 refl)

but_empty_last-some : (line : List ℕ) (parts : List (List ℕ)) → 0 < length line
    → but_empty_last (line ∷ parts) ≡ line ∷ but_empty_last parts
but_empty_last-some [] parts some = absurd (omega arith)
but_empty_last-some (x ∷ xs) parts some = refl

pub lines_of_front : (part rest : List ℕ) → HasNoFeed part → 0 < length part → (line : List ℕ)
    × (lines : List (List ℕ)) × (lines_of (part ++ rest) ≡ line ∷ lines) × (length part ≤ length line)
unfolding lines_of
lines_of_front part rest h some =
    let front = split_front (λ byte. eqb byte 10) part rest h in (
      part ++ front.0,
      but_empty_last front.1,
      ap but_empty_last front.2
          ∙ but_empty_last-some (part ++ front.0) front.1 (grind (arith, common_steps)),
      grind (arith, common_steps),
    )

lines_of_some-by : (b : Bool) (x : ℕ) (xs : List ℕ) → eqb x 10 ≡ b → 0 < length (lines_of (x ∷ xs))
unfolding lines_of
lines_of_some-by true x xs h =
    rw (
      slice_split-cons_yes (λ byte. eqb byte 10) x xs h,
      but_empty_last-cons [] (slice_split (λ byte. eqb byte 10) xs)
          (slice_split-has_first (λ byte. eqb byte 10) xs),
    ) (omega arith)
lines_of_some-by false x xs h =
    let later = slice_split-has_first (λ byte. eqb byte 10) xs in
    rw (slice_split-cons_no (λ byte. eqb byte 10) x xs h, later.2) (omega arith)

pub lines_of_some : (xs : List ℕ) → 0 < length xs → 0 < length (lines_of xs)
lines_of_some [] some = absurd (omega arith)
lines_of_some (x ∷ xs) some = lines_of_some-by (eqb x 10) x xs refl

-- the first line feed, where none stands among the bytes that were searched
pub first_feed : (bytes : List ℕ) (searched at : ℕ) → searched ≤ length bytes
    → HasNoFeed (take searched bytes) → IsFirstByte (is_byte 10) (drop searched bytes) (Some at)
    → IsFirstFeed bytes (searched + at)
first_feed bytes searched at within none h =
    let cut = piece_before 10 (drop searched bytes) at h in
    let front : take (searched + at) bytes ≡ take searched bytes ++ take at (drop searched bytes) =
    grind (arith, common_steps, take-append-drop searched bytes) in
    record {
      no_feed = rw front (All-append (λ byte. eqb byte 10 ≡ false) (take searched bytes)
          (take at (drop searched bytes)) none cut.0);
      parts = grind (arith, common_steps, take-append-drop searched bytes, front, cut.1);
      within = grind (arith, common_steps, cut.2);
    }

pub no_feed_found : (bytes : List ℕ) (searched : ℕ) → HasNoFeed (take searched bytes)
    → IsFirstByte (is_byte 10) (drop searched bytes) None → HasNoFeed bytes
no_feed_found bytes searched none h =
    subst HasNoFeed (take-append-drop searched bytes)
    (All-append (λ byte. eqb byte 10 ≡ false) (take searched bytes) (drop searched bytes) none
    (no_such_byte 10 (drop searched bytes) h))
