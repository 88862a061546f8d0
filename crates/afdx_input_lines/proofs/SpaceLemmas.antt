-- Spaces among the bytes of a line.
use Rattle.std.proofs.Common.{◌≡◌, ℕ, ◌+◌, ◌-◌, ◌<◌, List, [], ◌∷◌, ◌++◌, length, get_or, take}
use Rattle.std.proofs.Common.{drop, Bool, true, false, cond, refl, ap, ◌∙◌, arith, eqb, Option}
use Rattle.std.proofs.Common.{Some, None}
use Rattle.std.proofs.Common.{Result, Ok, Err, drop-cons, ◌||◌, ◌^◌, min}
use Rattle.std.proofs.lemmas.Grind.{common_steps}
use Rattle.std.proofs.lemmas.Bool.{ne_eqb}
use Rattle.std.proofs.lemmas.Slice.Eq.{bytes_eq-Decides}
use Rattle.std.proofs.lemmas.List.{take-append-drop}
use Rattle.std.proofs.lemmas.List.Splits.{slice_split_at, slice_split_none, slice_split-cons_yes, slice_split-cons_no}
use Rattle.std.proofs.lemmas.List.Elements.{All-head, All-tail, All-cons}
use Rattle.std.specs.List.{onto_first, All}
use Rattle.std.specs.Char.{is_ascii_digit}
use Rattle.std.specs.Str.{bytes_eq}
use Rattle.memchr.specs.Find.{IsFirstByte, is_byte}
use Rattle.hex.specs.Hex.{decode_pairs, decode_of, value_at, pair_value, ◌>>=◌}
use Rattle.hex.specs.declared.error.FromHexError.{FromHexError}
use Rattle.afdx_input_lines.specs.Splitting.{between_spaces, number_of, number_after, all_digits}
use Rattle.afdx_input_lines.specs.Fields.{cut_number}
use Rattle.afdx_input_lines.specs.Fields.{holds_space, bytes_of_digits, ok_of}
use Rattle.afdx_input_lines.proofs.SplitLemmas.{piece_before, no_such_byte}
use Rattle.afdx_input_lines.proofs.LineLemmas.{slice_split-has_first}
use Rattle.afdx_input_lines.proofs.FieldLemmas.{number_of_digits}

abbrev NoSpace : List ℕ → Type 0
NoSpace bytes = All (λ byte. eqb byte 32 ≡ false) bytes

neither : (b c : Bool) → (b || c) ≡ false → (b ≡ false) × (c ≡ false)
neither true c e = cc
neither false c e = (refl, e)

-- each byte is another one
pub no_space : (bytes : List ℕ) → holds_space bytes ≡ false → NoSpace bytes
unfolding holds_space
no_space [] h = λ k d below. absurd (omega (arith, below))
no_space (byte ∷ bytes) h =
    let parts = neither (eqb byte 32) (holds_space bytes) h in
    All-cons (λ x. eqb x 32 ≡ false) byte bytes parts.0 (no_space bytes parts.1)

pub holds_none : (bytes : List ℕ) → NoSpace bytes → holds_space bytes ≡ false
unfolding holds_space
holds_none [] h = refl
holds_none (byte ∷ bytes) h =
    rw (
      All-head (λ x. eqb x 32 ≡ false) byte bytes h,
      holds_none bytes (All-tail (λ x. eqb x 32 ≡ false) byte bytes h),
    ) refl

or_true : (b : Bool) → (b || true) ≡ true
or_true true = refl
or_true false = refl

pub holds_one : (front rest : List ℕ) → holds_space (front ++ 32 ∷ rest) ≡ true
unfolding holds_space
holds_one [] rest = refl
holds_one (byte ∷ front) rest = rw (holds_one front rest) (or_true (eqb byte 32))

-- what a search for the first space finds
pub found_space : (bytes : List ℕ) (at : ℕ) → IsFirstByte (is_byte 32) bytes (Some at) → holds_space bytes ≡ true
found_space bytes at h = ap holds_space (piece_before 32 bytes at h).1 ∙ holds_one (take at bytes) (drop (at + 1) bytes)

pub found_none : (bytes : List ℕ) → IsFirstByte (is_byte 32) bytes None → holds_space bytes ≡ false
found_none bytes h = holds_none bytes (no_such_byte 32 bytes h)

-- the parts of bytes with no space, and with one
pub one_part : (bytes : List ℕ) → holds_space bytes ≡ false → between_spaces bytes ≡ bytes ∷ []
one_part bytes h = slice_split_none (λ byte. eqb byte 32) bytes (no_space bytes h)

abbrev pub HasSecond : List (List ℕ) → Type 0
HasSecond parts = (first second : List ℕ) × (more : List (List ℕ)) × (parts ≡ first ∷ second ∷ more)

pub more_parts : (bytes : List ℕ) → holds_space bytes ≡ true → HasSecond (between_spaces bytes)
unfolding holds_space
more_parts [] h = cc
more_parts (byte ∷ bytes) h = by (eqb byte 32) refl h (λ e. more_parts bytes e)
  where
    by : (b : Bool) → eqb byte 32 ≡ b → (b || holds_space bytes) ≡ true
        → (holds_space bytes ≡ true → HasSecond (between_spaces bytes))
        → HasSecond (between_spaces (byte ∷ bytes))
    by true e h more = let later = slice_split-has_first (λ x. eqb x 32) bytes in (
      [],
      later.0,
      later.1,
      slice_split-cons_yes (λ x. eqb x 32) byte bytes e
          ∙ ap (λ xs. [] ∷ xs) later.2,
    )
    by false e h more = let later = more h in (
      byte ∷ later.0,
      later.1,
      later.2,
      slice_split-cons_no (λ x. eqb x 32) byte bytes e
          ∙ ap (onto_first byte) later.3,
    )

-- digits hold no space
digit_no_space : (byte : ℕ) → is_ascii_digit byte ≡ true → eqb byte 32 ≡ false
digit_no_space byte h = ne_eqb byte 32 (λ same. let digit = rw same at h in cc)

digits_no_space : (bytes : List ℕ) → all_digits bytes ≡ true → NoSpace bytes
digits_no_space [] h = λ k d below. absurd (omega (arith, below))
digits_no_space (byte ∷ bytes) h =
    let first : is_ascii_digit byte ≡ true = grind (arith, common_steps, h) in
    let rest : all_digits bytes ≡ true = grind (arith, common_steps, h) in
    All-cons (λ x. eqb x 32 ≡ false) byte bytes (digit_no_space byte first) (digits_no_space bytes rest)

-- a number ends at the first byte that is no digit, if that is a space
pub number_before : (text : List ℕ) (at value : ℕ) → 0 < at → at < length text
    → all_digits (take at text) ≡ true → value ≡ number_after 0 (take at text) → get_or text at 0 ≡ 32
    → value < 2 ^ 64 → (Some value ≡ cut_number (number_of (take at text)))
    × (between_spaces text ≡ take at text
    ∷ between_spaces (take (length text - (at + 1)) (drop (at + 1) text)))
number_before text at value some within digits is space fits =
    let size : 0 < length (take at text) = grind (arith, common_steps) in
    let rest : take (length text - (at + 1)) (drop (at + 1) text) ≡ drop (at + 1) text = grind (arith, common_steps) in
    let whole : min value (2 ^ 64 - 1) ≡ value = omega (arith, fits) in
    let parts : text ≡ take at text ++ 32 ∷ drop (at + 1) text =
    grind (arith, common_steps, space, take-append-drop at text, drop-cons text at 0 within) in (
      rw (number_of_digits (take at text) size digits, ← is, whole) refl,
      rw rest (ap between_spaces parts
          ∙ slice_split_at (λ byte. eqb byte 32) (take at text) 32 (drop (at + 1) text)
          (digits_no_space (take at text) digits) refl),
    )

-- hexadecimal digits hold no space
value_no_space : (c i v : ℕ) → value_at c i ≡ Ok v → eqb c 32 ≡ false
value_no_space c i v h = ne_eqb c 32 (λ same. let digit = rw same at h in cc)

bind_ok : {A B : Type 0} (r : Result A FromHexError) (f : A → Result B FromHexError) (b : B)
    → (r >>= f) ≡ Ok b → (a : A) × (r ≡ Ok a) × (f a ≡ Ok b)
bind_ok (Ok a) f b h = (a, refl, h)
bind_ok (Err e) f b h = cc

pub decoded_hold_none : (digits : List ℕ) (i : ℕ) (bytes : List ℕ)
    → decode_pairs i digits ≡ Ok bytes → holds_space digits ≡ false
unfolding decode_pairs holds_space
decoded_hold_none [] i bytes h = refl
decoded_hold_none (digit ∷ []) i bytes h = cc
decoded_hold_none (high ∷ low ∷ rest) i bytes h =
    let byte = bind_ok (pair_value high low i) _ bytes h in
    let later = bind_ok (decode_pairs (i + 2) rest) _ bytes byte.2 in
    let first = bind_ok (value_at high i) _ byte.0 byte.1 in
    let second = bind_ok (value_at low (i + 1)) _ byte.0 first.2 in
    rw (
      value_no_space high i first.0 first.1,
      value_no_space low (i + 1) second.0 second.1,
      decoded_hold_none rest (i + 2) later.0 later.1,
    ) refl

ok_of-some : (r : Result (List ℕ) FromHexError) (bytes : List ℕ) → ok_of r ≡ Some bytes → r ≡ Ok bytes
ok_of-some (Ok x) bytes h = cc
ok_of-some (Err e) bytes h = cc

decode_of-by : (odd : Bool) (e : FromHexError) (r : Result (List ℕ) FromHexError) (bytes : List ℕ)
    → cond odd (Err e) r ≡ Ok bytes → r ≡ Ok bytes
decode_of-by true e r bytes h = cc
decode_of-by false e r bytes h = h

-- what can be read as bytes holds no space
pub bytes_hold_none : (digits bytes : List ℕ) → bytes_of_digits digits ≡ Some bytes → holds_space digits ≡ false
unfolding bytes_of_digits holds_space
bytes_hold_none digits bytes h = by (bytes_eq digits (45 ∷ [])) refl h
  where
    by : (b : Bool) → bytes_eq digits (45 ∷ []) ≡ b → cond b (Some []) (ok_of (decode_of digits))
        ≡ Some bytes → holds_space digits ≡ false
    by true e h = rw ((bytes_eq-Decides digits (45 ∷ [])).0 e) refl
    by false e h = decoded_hold_none digits 0 bytes
        (decode_of-by _ _ (decode_pairs 0 digits) bytes (ok_of-some (decode_of digits) bytes h))

-- one of two answers
pub none_either : {X : Type 0} (b : Bool) → ◌≡◌ {A = Option X} None (cond b None None)
none_either true = refl
none_either false = refl

pub first_of : {X : Type 0} (b : Bool) (x : X) (o : Option X) → b ≡ false → cond b None (Some x) ≡ o → Some x ≡ o
first_of b x o h e = rw h at e

pub none_of : {X : Type 0} (b : Bool) (x : X) (o : Option X) → b ≡ true → cond b None (Some x) ≡ o → None ≡ o
none_of b x o h e = rw h at e
