-- The fields of a line.
use Rattle.std.proofs.Common.{◌≡◌, ℕ, ◌+◌, ◌-◌, ◌*◌, ◌<◌, ◌≤◌, List, [], ◌∷◌, ◌++◌}
use Rattle.std.proofs.Common.{length, get_or, take, drop, Bool, true, false, cond, ◌&&◌, refl, ap}
use Rattle.std.proofs.Common.{sym, ◌∙◌, arith, eqb, eq-eqb, Option, Some, None, suc, zero, nat_lt, ltb-false}
use Rattle.std.proofs.lemmas.Grind.{common_steps}
use Rattle.std.specs.Char.{is_ascii_digit}
use Rattle.std.proofs.Common.{Result, Ok, Err}
use Rattle.afdx_input_lines.specs.declared.fault.LineFault.TheVariants.{TimeTooLarge, TimeBack}
use Rattle.afdx_input_lines.specs.Splitting.{number_of, number_after, all_digits}
use Rattle.afdx_input_lines.specs.Fields.{bytes_of_digits, ok_of}
use Rattle.afdx_frame.specs.Times.{latest_listed}
use Rattle.afdx_input_lines.specs.Fields.{cut, time_fault}
use Rattle.hex.specs.Hex.{decode_of, decode_sized}
use Rattle.hex.specs.declared.error.FromHexError.{FromHexError}
use Rattle.std.specs.Prelude.{MatchResult, ◌/◌, ◌%◌}
use Rattle.std.specs.Str.{bytes_eq}
use Rattle.hex.specs.declared.error.FromHexError.TheVariants.{OddLength}

and_false : (b : Bool) → (b && false) ≡ false
and_false true = refl
and_false false = refl

-- one byte that is no digit
pub all_digits_not : (bytes : List ℕ) (i : ℕ) → i < length bytes → is_ascii_digit (get_or bytes i 0)
    ≡ false → all_digits bytes ≡ false
all_digits_not [] i h wrong = absurd (omega arith)
all_digits_not (byte ∷ bytes) zero h wrong = rw wrong refl
all_digits_not (byte ∷ bytes) (suc i) h wrong =
    rw (all_digits_not bytes i (omega arith) wrong) (and_false (is_ascii_digit byte))

pub number_of_not : (bytes : List ℕ) → all_digits bytes ≡ false → number_of bytes ≡ None
number_of_not [] h = refl
number_of_not (byte ∷ bytes) h = rw h refl

pub number_of_digits : (bytes : List ℕ) → 0 < length bytes → all_digits bytes ≡ true
    → number_of bytes ≡ Some (number_after 0 bytes)
number_of_digits [] some h = absurd (omega arith)
number_of_digits (byte ∷ bytes) some h = rw h refl

pub number_after_push : (n : ℕ) (bytes : List ℕ) (byte : ℕ) → number_after n (bytes ++ byte ∷ [])
    ≡ number_after n bytes * 10 + (byte - 48)
number_after_push n [] byte = refl
number_after_push n (first ∷ bytes) byte = number_after_push (n * 10 + (first - 48)) bytes byte

pub all_digits_push : (bytes : List ℕ) (byte : ℕ) → all_digits bytes ≡ true
    → is_ascii_digit byte ≡ true → all_digits (bytes ++ byte ∷ []) ≡ true
all_digits_push [] byte all one = rw one refl
all_digits_push (first ∷ bytes) byte all one = grind (arith, common_steps, all_digits_push bytes byte)

pub digit_at : (bytes : List ℕ) (i : ℕ) → i < length bytes → all_digits bytes ≡ true
    → is_ascii_digit (get_or bytes i 0) ≡ true
digit_at [] i h all = absurd (omega arith)
digit_at (byte ∷ bytes) zero h all = grind (arith, common_steps, all)
digit_at (byte ∷ bytes) (suc i) h all =
    let rest : all_digits bytes ≡ true = grind (arith, common_steps, all) in
    digit_at bytes i (omega arith) rest

pub from_48 : (byte : ℕ) → is_ascii_digit byte ≡ true → 48 ≤ byte
from_48 byte digit = grind (arith, digit)

pub rest_is_none : {X : Type 0} (o : Option X) → ((x : X) → o ≡ Some x → ⊥) → o ≡ None
rest_is_none None h = refl
rest_is_none (Some x) h = absurd (h x refl)

pub time_fault-cut : (time latest : ℕ) → latest ≤ latest_listed → time_fault (cut time) latest ≡ time_fault time latest
time_fault-cut time latest h = grind (arith, common_steps)

-- no check of a time is false
pub time_fault-none : (time latest : ℕ) → time_fault time latest ≡ None → (time ≤ latest_listed) × (latest ≤ time)
time_fault-none time latest none = by (nat_lt latest_listed time) refl (nat_lt time latest) refl none
  where
    by : (a : Bool) → nat_lt latest_listed time ≡ a → (b : Bool) → nat_lt time latest ≡ b
        → cond a (Some TimeTooLarge) (cond b (Some TimeBack) None) ≡ None → (time ≤ latest_listed) × (latest ≤ time)
    by true large b back h = absurd (cc h)
    by false large true back h = absurd (cc h)
    by false large false back h = (ltb-false latest_listed time large, ltb-false time latest back)

-- digits are decoded into half as many bytes
decode_sized_half-by : (b c : Bool) (odd whole wrong : Result (List ℕ) FromHexError) → c ≡ true
    → cond b odd (cond c whole wrong) ≡ cond b odd whole
decode_sized_half-by true c odd whole wrong h = refl
decode_sized_half-by false c odd whole wrong h = rw h refl

decode_sized_half : (text : List ℕ) (n : ℕ) → n ≡ length text / 2 → decode_sized text n ≡ decode_of text
decode_sized_half text n h =
    decode_sized_half-by (eqb (length text % 2) 1) (eqb (length text / 2) n) (Err OddLength) _ _
    (eq-eqb (length text / 2) n (sym h))

pub dash_is_no_bytes : (digits : List ℕ) → bytes_eq digits (45 ∷ []) ≡ true → bytes_of_digits digits ≡ Some []
unfolding bytes_of_digits
dash_is_no_bytes digits h = rw h refl

digits_decode : (digits : List ℕ) (n : ℕ) → bytes_eq digits (45 ∷ []) ≡ false
    → n ≡ length digits / 2 → bytes_of_digits digits ≡ ok_of (decode_sized digits n)
unfolding bytes_of_digits
digits_decode digits n h half = rw (h, decode_sized_half digits n half) refl

-- what the decoder says of these digits
abbrev pub Decodes : Result (List ℕ) FromHexError → Result (Unit {0}) FromHexError → List ℕ → Type 0
Decodes sized result new = MatchResult sized (λ bytes. (result ≡ Ok tt) × (new ≡ bytes)) (λ e. result ≡ Err e)

decoded_ok : (sized : Result (List ℕ) FromHexError) (new : List ℕ) → Decodes sized (Ok tt) new → ok_of sized ≡ Some new
decoded_ok (Ok bytes) new h = ap Some (sym h.1)
decoded_ok (Err e) new h = cc

decoded_err : (sized : Result (List ℕ) FromHexError) (fault : FromHexError) (new : List ℕ)
    → Decodes sized (Err fault) new → ok_of sized ≡ None
decoded_err (Ok bytes) fault new h = let wrong = h.0 in cc
decoded_err (Err e) fault new h = refl

pub digits_are : (digits new : List ℕ) (n : ℕ) → bytes_eq digits (45 ∷ []) ≡ false
    → n ≡ length digits / 2 → Decodes (decode_sized digits n) (Ok tt) new → bytes_of_digits digits
    ≡ Some new
digits_are digits new n h half decodes = digits_decode digits n h half ∙ decoded_ok (decode_sized digits n) new decodes

pub digits_are_bad : (digits new : List ℕ) (n : ℕ) (fault : FromHexError)
    → bytes_eq digits (45 ∷ []) ≡ false → n ≡ length digits / 2
    → Decodes (decode_sized digits n) (Err fault) new → bytes_of_digits digits ≡ None
digits_are_bad digits new n fault h half decodes = digits_decode digits n h half
    ∙ decoded_err (decode_sized digits n) fault new decodes

-- all the elements were written over
pub written_over : (new old : List ℕ) (n : ℕ) → length new ≡ length old → n ≡ length old
    → take n (new ++ drop (length new) old) ≡ new
written_over new old n same whole = grind (arith, common_steps)

-- 10 to the power of n
ten_to : ℕ → ℕ
ten_to zero = 1
ten_to (suc n) = 10 * ten_to n

ten_to_more : (n more : ℕ) → ten_to n ≤ ten_to (n + more)
unfolding ten_to
ten_to_more n zero = let same : n + zero ≡ n = omega arith in rw same (omega arith)
ten_to_more n (suc more) =
    let next : n + suc more ≡ suc (n + more) = omega arith in
    let before = ten_to_more n more in
    rw next (omega (arith, before))

push_below : (n : ℕ) (byte most : ℕ) → is_ascii_digit byte ≡ true → n < most → n * 10 + (byte - 48) < 10 * most
push_below n byte most digit below = grind (arith, digit, below)

-- so many digits write a number below that power of 10
number_below : (bytes : List ℕ) (n k : ℕ) → all_digits bytes ≡ true → n < ten_to k
    → number_after n bytes < ten_to (k + length bytes)
unfolding ten_to
number_below [] n k all below = let same : k + 0 ≡ k = omega arith in rw same below
number_below (byte ∷ bytes) n k all below =
    let first : is_ascii_digit byte ≡ true = grind (arith, common_steps, all) in
    let rest : all_digits bytes ≡ true = grind (arith, common_steps, all) in
    let place : k + suc (length bytes) ≡ suc k + length bytes = omega arith in
    rw place (number_below bytes (n * 10 + (byte - 48)) (suc k) rest (push_below n byte (ten_to k) first below))

-- the number of 18 digits or fewer leaves room for one more
pub few_digits : (bytes : List ℕ) → all_digits bytes ≡ true → length bytes ≤ 18
    → number_after 0 bytes < 1000000000000000000
unfolding ten_to
few_digits bytes all few =
    let none : 0 + length bytes ≡ length bytes = omega arith in
    let below = rw none at (number_below bytes 0 0 all (omega arith)) in
    let most : ten_to (length bytes) ≤ ten_to (length bytes + (18 - length bytes)) =
    ten_to_more (length bytes) (18 - length bytes) in
    let place : length bytes + (18 - length bytes) ≡ 18 = omega arith in
    omega (arith, below, rw place at most)
