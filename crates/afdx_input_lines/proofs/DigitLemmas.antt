-- Hexadecimal digits that are read block by block.
use Rattle.std.proofs.Common.{◌≡◌, ◌≢◌, ◌⊎◌, ℕ, zero, suc, ◌-◌, min, ◌+◌, ◌*◌, ◌%◌, ◌<◌, ◌≤◌, List}
use Rattle.std.proofs.Common.{[], ◌∷◌, ◌++◌, length, take, drop, slice_index, refl, sym, ap, ap₂}
use Rattle.std.proofs.Common.{◌∙◌, arith, nat_le, Some, None, Ok, Err, Option, Result, inl, inr}
use Rattle.std.proofs.Common.{if◌then◌else◌}
use Rattle.std.specs.Prelude.{slice_set, bit_and}
use Rattle.std.proofs.lemmas.Bool.{cases_eq}
use Rattle.std.proofs.lemmas.Grind.{common_steps}
use Rattle.std.proofs.lemmas.List.{get_or-set_same, get_or-set_other, append_assoc, drop-drop}
use Rattle.std.proofs.lemmas.List.{take-append-drop, append-nil, take_all, drop_all, length-take-le}
use Rattle.std.proofs.lemmas.List.{take-append-le, take-take}
use Rattle.hex.specs.Hex.{hex_digit_value, digit_or_error, value_at, pair_value, decode_pairs}
use Rattle.hex.specs.declared.error.FromHexError.{FromHexError}
use Rattle.hex.proofs.Pairs.{prepend, cons_byte, decode_pairs-ok_pair, decode_pairs-err_pair}

-- the first n digits have these values
abbrev pub AreValues : List ℕ → List ℕ → ℕ → Type 0
AreValues digits values n = (at : ℕ) → at < n →
    (hex_digit_value (slice_index digits at) ≡ Some (slice_index values at)) × (slice_index values at ≤ 15)

-- a number of at most 15 is the digit's value
pub digit_of : (digit value : ℕ)
    → hex_digit_value digit ≡ (if nat_le value 15 then Some value else None) → value ≤ 15
    → hex_digit_value digit ≡ Some value
digit_of digit value e h = grind (arith, common_steps, e, h)

-- one more value
pub more_values : (digits values : List ℕ) (n value : ℕ) → n < length values
    → hex_digit_value (slice_index digits n) ≡ Some value → value ≤ 15 →
    AreValues digits values n → AreValues digits (slice_set values n value) (n + 1)
more_values digits values n value room is small so_far at below = by (cases_eq at n)
  where
    by : (at ≡ n) ⊎ (at ≢ n) →
        (hex_digit_value (slice_index digits at) ≡ Some (slice_index (slice_set values n value) at))
        × (slice_index (slice_set values n value) at ≤ 15)
    by (inl same) = rw (same, get_or-set_same values n value 0 room) (is, small)
    by (inr other) = rw (get_or-set_other values n at value 0 other) (so_far at (omega (arith, below, other)))

-- the byte of two digits
pub pair_of : (high low h l at : ℕ) → hex_digit_value high ≡ Some h → hex_digit_value low ≡ Some l
    → h ≤ 15 → l ≤ 15 → pair_value high low at ≡ Ok ((h * 16 % 256 + l) % 256)
pair_of high low h l at eh el small_h small_l =
    let first : value_at high at ≡ Ok h = ap (digit_or_error high at) eh in
    let second : value_at low (at + 1) ≡ Ok l = ap (digit_or_error low (at + 1)) el in
    let pair : pair_value high low at ≡ Ok (h * 16 + l) = rw (first, second) refl in
    let byte : h * 16 + l ≡ (h * 16 % 256 + l) % 256 = omega arith in
    pair ∙ ap Ok byte

-- a pair reads alike wherever it stands
pair_anywhere : (a b v q p : ℕ) → pair_value a b q ≡ Ok v → pair_value a b p ≡ Ok v
pair_anywhere a b v q p e = by (hex_digit_value a) refl (hex_digit_value b) refl
  where
    by : (h : Option ℕ) → hex_digit_value a ≡ h → (l : Option ℕ) → hex_digit_value b ≡ l → pair_value a b p ≡ Ok v
    by None ha l hb = cc (rw ha at e)
    by (Some h) ha None hb = cc (rw (ha, hb) at e)
    by (Some h) ha (Some l) hb = rw (ha, hb) (rw (ha, hb) at e)

-- a byte, then those before a rest
cons_prepend : (v : ℕ) (bs : List ℕ) (r : Result (List ℕ) FromHexError) → cons_byte v (prepend bs r)
    ≡ prepend (v ∷ bs) r
cons_prepend v bs (Ok rest) = refl
cons_prepend v bs (Err e) = refl

-- two digits more
block_step : (q p h l : ℕ) (more rest bs : List ℕ) →
    ((ms : List ℕ) → decode_pairs (q + 2) more ≡ Ok ms → decode_pairs (p + 2) (more ++ rest)
    ≡ prepend ms (decode_pairs (p + 2 + length more) rest)) →
    decode_pairs q (h ∷ l ∷ more) ≡ Ok bs → decode_pairs p (h ∷ l ∷ (more ++ rest))
    ≡ prepend bs (decode_pairs (p + length (h ∷ l ∷ more)) rest)
block_step q p h l more rest bs on e = by (pair_value h l q) refl (decode_pairs (q + 2) more) refl
  where
    by : (r : Result ℕ FromHexError) → pair_value h l q ≡ r → (s : Result (List ℕ) FromHexError)
        → decode_pairs (q + 2) more ≡ s →
        decode_pairs p (h ∷ l ∷ (more ++ rest)) ≡ prepend bs (decode_pairs (p + length (h ∷ l ∷ more)) rest)
    by (Err x) k s m = let wrong : Err x ≡ Ok bs = sym (decode_pairs-err_pair q h l x more k) ∙ e in cc
    by (Ok v) k (Err x) m = let wrong : Err x ≡ Ok bs =
        sym (decode_pairs-ok_pair q h l v more k ∙ ap (cons_byte v) m) ∙ e in cc
    by (Ok v) k (Ok ms) m =
        let whole : Ok (v ∷ ms) ≡ Ok bs = sym (decode_pairs-ok_pair q h l v more k ∙ ap (cons_byte v) m) ∙ e in
        let same : v ∷ ms ≡ bs = cc in
        let place : p + 2 + length more ≡ p + length (h ∷ l ∷ more) = omega arith in
        decode_pairs-ok_pair p h l v (more ++ rest) (pair_anywhere h l v q p k) ∙ ap (cons_byte v) (on ms m)
        ∙ cons_prepend v ms (decode_pairs (p + 2 + length more) rest)
        ∙ ap (λ (k : ℕ). prepend (v ∷ ms) (decode_pairs k rest)) place
        ∙ ap (λ (xs : List ℕ). prepend xs (decode_pairs (p + length (h ∷ l ∷ more)) rest)) same

one_alone : {A : Type 0} (q h : ℕ) (bs : List ℕ) → decode_pairs q (h ∷ []) ≡ Ok bs → A
unfolding decode_pairs
one_alone q h bs e = cc

prepend_none : (r : Result (List ℕ) FromHexError) → r ≡ prepend [] r
prepend_none (Ok xs) = refl
prepend_none (Err x) = refl

none_before : (q p : ℕ) (rest bs : List ℕ) → decode_pairs q [] ≡ Ok bs
    → decode_pairs p rest ≡ prepend bs (decode_pairs (p + 0) rest)
unfolding decode_pairs
none_before q p rest [] e = let same : p ≡ p + 0 = omega arith in
    ap (λ (k : ℕ). decode_pairs k rest) same ∙ prepend_none (decode_pairs (p + 0) rest)
none_before q p rest (b ∷ bs) e = cc

-- digits that read, before others
pub decode_block : (q p : ℕ) (block rest bs : List ℕ) → decode_pairs q block ≡ Ok bs →
    decode_pairs p (block ++ rest) ≡ prepend bs (decode_pairs (p + length block) rest)
decode_block q p [] rest bs e = none_before q p rest bs e
decode_block q p (h ∷ []) rest bs e = one_alone q h bs e
decode_block q p (h ∷ l ∷ more) rest bs e =
    block_step q p h l more rest bs (λ ms k. decode_block (q + 2) (p + 2) more rest ms k) e

prepend_twice : (xs ys : List ℕ) (r : Result (List ℕ) FromHexError) → prepend xs (prepend ys r) ≡ prepend (xs ++ ys) r
prepend_twice xs ys (Ok zs) = ap Ok (sym (append_assoc xs ys zs))
prepend_twice xs ys (Err e) = refl

-- a block more
pub more_block : (digits some old new bs : List ℕ) (at size next : ℕ) → next ≡ at + size
    → some ≡ take (2 * size) (drop (2 * at) digits) →
    length some ≡ 2 * size → decode_pairs 0 some ≡ Ok bs → take next new ≡ take at old ++ bs →
    decode_pairs 0 digits ≡ prepend (take at old) (decode_pairs (2 * at) (drop (2 * at) digits)) →
    decode_pairs 0 digits ≡ prepend (take next new) (decode_pairs (2 * next) (drop (2 * next) digits))
more_block digits some old new bs at size next n is long read whole inv =
    let rest : List ℕ = drop (2 * next) digits in
    let sum : 2 * at + 2 * size ≡ 2 * next = omega (arith, n) in
    let first : List ℕ = take (2 * size) (drop (2 * at) digits) in
    let parts : drop (2 * at) digits ≡ some ++ rest =
    sym (ap (λ (xs : List ℕ). xs ++ rest) is
    ∙ ap (λ (k : ℕ). first ++ drop k digits) (sym sum)
    ∙ ap (λ (xs : List ℕ). first ++ xs) (sym (drop-drop (2 * size) (2 * at) digits))
    ∙ take-append-drop (2 * size) (drop (2 * at) digits)) in
    let place : 2 * at + length some ≡ 2 * next = omega (arith, n, long) in
    inv ∙ ap (λ (xs : List ℕ). prepend (take at old) (decode_pairs (2 * at) xs)) parts
    ∙ ap (prepend (take at old)) (decode_block 0 (2 * at) some rest bs read)
    ∙ prepend_twice (take at old) bs (decode_pairs (2 * at + length some) rest)
    ∙ ap (λ (k : ℕ). prepend (take at old ++ bs) (decode_pairs k rest)) place
    ∙ ap (λ (xs : List ℕ). prepend xs (decode_pairs (2 * next) rest)) (sym whole)

-- what a function gives for n numbers from one on
given : {A : Type 0} → (ℕ → A) → ℕ → ℕ → List A
given f zero i = []
given f (suc n) i = f i ∷ given f n (suc i)

same_below : {A : Type 0} (f g : ℕ → A) (n i j : ℕ) → given f n i ≡ given g n i → j < n → f (i + j) ≡ g (i + j)
unfolding given
same_below f g zero i j e h = absurd (omega arith)
same_below f g (suc n) i zero e h =
    let place : i + zero ≡ i = omega arith in
    let first : f i ≡ g i = cc in
    rw place first
same_below f g (suc n) i (suc j) e h =
    let place : i + suc j ≡ suc i + j = omega arith in
    let rest : given f n (suc i) ≡ given g n (suc i) = cc in
    rw place (same_below f g n (suc i) j rest (omega arith))

-- a digit's value by arithmetic, or a number over 15
value_by : ℕ → ℕ
value_by digit = min (((digit + 198) % 256 - 6 + 16) % 256) (min ((bit_and digit 223 + 191) % 256 + 10) 255)

value_if_small : ℕ → Option ℕ
value_if_small digit = if nat_le (value_by digit) 15 then Some (value_by digit) else None

all_values : given hex_digit_value 256 0 ≡ given value_if_small 256 0
unfolding given value_if_small value_by
all_values = refl

-- the value of a digit by arithmetic
pub value_is : (digit moved letter value : ℕ) → digit < 256 → moved ≡ (digit + 198) % 256 - 6 →
    letter ≡ min ((bit_and digit 223 + 191) % 256 + 10) 255 → value ≡ min ((moved + 16) % 256) letter →
    hex_digit_value digit ≡ (if nat_le value 15 then Some value else None)
unfolding value_if_small value_by
value_is digit moved letter value byte m l v =
    let is : value ≡ value_by digit = rw (v, m, l) refl in
    let place : 0 + digit ≡ digit = omega arith in
    rw is (rw place at (same_below hex_digit_value value_if_small 256 0 digit all_values byte))

-- two digits that read, and those after them
after_pair : (q h l : ℕ) (more bs : List ℕ) → decode_pairs q (h ∷ l ∷ more) ≡ Ok bs →
    (v : ℕ) × (ms : List ℕ) × (bs ≡ v ∷ ms) × (decode_pairs (q + 2) more ≡ Ok ms)
after_pair q h l more bs e = by (pair_value h l q) refl (decode_pairs (q + 2) more) refl
  where
    by : (r : Result ℕ FromHexError) → pair_value h l q ≡ r → (s : Result (List ℕ) FromHexError)
        → decode_pairs (q + 2) more ≡ s →
        (v : ℕ) × (ms : List ℕ) × (bs ≡ v ∷ ms) × (decode_pairs (q + 2) more ≡ Ok ms)
    by (Err x) k s m = let wrong : Err x ≡ Ok bs = sym (decode_pairs-err_pair q h l x more k) ∙ e in cc
    by (Ok v) k (Err x) m = let wrong : Err x ≡ Ok bs =
        sym (decode_pairs-ok_pair q h l v more k ∙ ap (cons_byte v) m) ∙ e in cc
    by (Ok v) k (Ok ms) m =
        let whole : Ok bs ≡ Ok (v ∷ ms) = sym e ∙ decode_pairs-ok_pair q h l v more k ∙ ap (cons_byte v) m in
        let same : bs ≡ v ∷ ms = cc in
        (v, ms, same, m)

-- of digits that read, those from a pair on
reads_on : (k q p : ℕ) (xs bs : List ℕ) → decode_pairs q xs ≡ Ok bs → decode_pairs p (drop (2 * k) xs) ≡ Ok (drop k bs)
unfolding decode_pairs
reads_on zero q p xs bs e =
    let whole = decode_block q p xs [] bs e in
    let none : xs ++ [] ≡ xs = append-nil xs in
    let none_more : bs ++ [] ≡ bs = append-nil bs in
    rw (none, none_more) at whole
reads_on (suc k) q p [] [] e = let none : drop (2 * suc k) [] ≡ [] =
    drop_all {X = ℕ} (2 * suc k) [] (omega arith) in rw none refl
reads_on (suc k) q p [] (b ∷ bs) e = cc
reads_on (suc k) q p (h ∷ []) bs e = one_alone q h bs e
reads_on (suc k) q p (h ∷ l ∷ more) bs e =
    let after = after_pair q h l more bs e in
    let place : 2 * suc k ≡ 2 + 2 * k = omega arith in
    let rest : drop (2 * k) more ≡ drop (2 + 2 * k) (h ∷ l ∷ more) = drop-drop (2 * k) 2 (h ∷ l ∷ more) in
    let read = reads_on k (q + 2) p more after.1 after.3 in
    rw (place, sym rest, after.2) read

-- the last block, which may begin among digits that are read already
pub last_block : (digits old new bs : List ℕ) (at so_far : ℕ) → at ≤ so_far → so_far ≤ length old
    → length new ≤ length old →
    take (length old) new ≡ take at old ++ bs → decode_pairs 0 (drop (2 * at) digits) ≡ Ok bs →
    decode_pairs 0 digits ≡ prepend (take so_far old) (decode_pairs (2 * so_far) (drop (2 * so_far) digits)) →
    decode_pairs 0 digits ≡ Ok new
last_block digits old new bs at so_far back within long put read inv =
    let is : new ≡ take at old ++ bs = sym (take_all (length old) new long) ∙ put in
    let size : length (take so_far old) ≡ so_far = length-take-le so_far old within in
    let k : ℕ = so_far - at in
    let place : 2 * at + 2 * k ≡ 2 * so_far = omega arith in
    let rest : decode_pairs (2 * so_far) (drop (2 * k) (drop (2 * at) digits)) ≡ Ok (drop k bs) =
    reads_on k 0 (2 * so_far) (drop (2 * at) digits) bs read in
    let tail : decode_pairs (2 * so_far) (drop (2 * so_far) digits) ≡ Ok (drop k bs) =
    rw (drop-drop (2 * k) (2 * at) digits, place) at rest in
    let whole : decode_pairs 0 digits ≡ Ok (take so_far old ++ drop k bs) = inv ∙ ap (prepend (take so_far old)) tail in
    let again : Ok bs ≡ Ok (drop at (take so_far old ++ drop k bs)) = sym read
    ∙ reads_on at 0 0 digits (take so_far old ++ drop k bs) whole in
    let back_part : bs ≡ drop at (take so_far old ++ drop k bs) = cc in
    let front : take at (take so_far old ++ drop k bs) ≡ take at old =
    take-append-le at (take so_far old) (drop k bs) (omega (arith, back, size)) ∙ take-take at so_far old back in
    whole ∙ ap Ok (sym (take-append-drop at (take so_far old ++ drop k bs))
    ∙ ap₂ (λ (xs ys : List ℕ). xs ++ ys) front (sym back_part) ∙ sym is)
