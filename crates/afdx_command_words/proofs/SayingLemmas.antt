-- What some words `K=PLACE` say.
use Rattle.std.proofs.Common.{◌≡◌, ◌≢◌, ◌++◌, ◌<◌, ◌≤◌, ℕ, List, [], ◌∷◌, refl, arith, Option, Some, None}
use Rattle.std.proofs.Common.{codes, length}
use Rattle.std.specs.Str.Parse.{AllDigits, digits_value}
use Rattle.afdx_frame.specs.declared.link.Side.{Side}
use Rattle.afdx_frame.specs.declared.link.Side.TheVariants.{A, B}
use Rattle.afdx_input_sources.specs.Places.{most_interfaces}
use Rattle.afdx_command_words.specs.PlaceSaid.{IsWritten, IsPort, IsName, IsNamePart, IsPortPart, IsPlace, IsSite}
use Rattle.afdx_command_words.specs.PlaceSaid.{IsWord, Spot, letter}
use Rattle.afdx_command_words.specs.WordLaws.{OtherWords, SomeWords, SaysNothing, spot_with}
use Rattle.afdx_command_words.proofs.CutLemmas.{Lacks, apart, lacks-none, lacks-more}
use Rattle.afdx_command_words.proofs.PlaceLemmas.{word-parts, spot-parts, spot-whole, site-parts}

-- ---- words that say something

written : (most : ℕ) (text : List ℕ) (n : ℕ) → 0 < length text → AllDigits 10 text → length text ≤ most
    → digits_value 10 text ≡ n → IsWritten most text n
written most text n some digits short value = record { numeral = (some, digits); short = short; value = value }

port : (text : List ℕ) (n : ℕ) → IsWritten 2 text n → 1 ≤ n → n ≤ 24 → IsPort text n
port text n number first last = record { number = number; first = first; last = last }

site : (side : Side) (name_part : List ℕ) (switch : Option (List ℕ)) → IsNamePart name_part switch
    → IsSite (letter side ++ name_part) side switch
site side name_part switch is = record { name_part = name_part; written = refl; named = is }

spot : (side : Side) (name_part port_part : List ℕ) (switch : Option (List ℕ)) (port : Option ℕ)
    → IsNamePart name_part switch → IsPortPart port_part port
    → IsPlace ((letter side ++ name_part) ++ port_part) (spot_with side switch port)
spot side name_part port_part switch port named at = record {
  site = letter side ++ name_part;
  port_part = port_part;
  written = refl;
  at_site = site side name_part switch named;
  at_port = at;
}

word : (digits place : List ℕ) (k : ℕ) (spot : Option Spot) → IsWritten 4 digits k → k < most_interfaces
    → IsPlace place spot → IsWord (digits ++ 61 ∷ place) k spot
word digits place k spot number range is = record {
  digits = digits;
  place = place;
  written = refl;
  number = number;
  range = range;
  is = is;
}

zero_is : IsWritten 4 (codes "0") 0
zero_is = written 4 (codes "0") 0 (omega arith) (omega arith, tt) (omega arith) refl

one_is : IsWritten 2 (codes "1") 1
one_is = written 2 (codes "1") 1 (omega arith) (omega arith, tt) (omega arith) refl

fwd : IsName (codes "fwd")
fwd = record { first = omega arith; last = omega arith; letters = refl }

pub some_words : SomeWords
some_words = record {
  port = word (codes "0") (codes "A:1") 0 (spot_with A None (Some 1)) zero_is (omega arith)
      (spot A [] (codes ":1") None (Some 1) refl
      (codes "1", refl, port (codes "1") 1 one_is (omega arith) (omega arith)));
  side = word (codes "4095") (codes "B") 4095 (spot_with B None None)
      (written 4 (codes "4095") 4095 (omega arith)
      (omega arith, (omega arith, (omega arith, (omega arith, tt)))) (omega arith) refl)
      (omega arith) (spot B [] [] None None refl refl);
  switch = word (codes "12") (codes "A fwd") 12 (spot_with A (Some (codes "fwd")) None)
      (written 4 (codes "12") 12 (omega arith) (omega arith, (omega arith, tt)) (omega arith) refl)
      (omega arith) (spot A (codes " fwd") [] (Some (codes "fwd")) None (refl, fwd) refl);
  switch_port = word (codes "0") (codes "B fwd:24") 0 (spot_with B (Some (codes "fwd")) (Some 24)) zero_is (omega arith)
      (spot B (codes " fwd") (codes ":24") (Some (codes "fwd")) (Some 24) (refl, fwd) (
        codes "24",
        refl,
        port (codes "24") 24
            (written 2 (codes "24") 24 (omega arith) (omega arith, (omega arith, tt)) (omega arith) refl)
            (omega arith) (omega arith),
      ));
  zeros = word (codes "0007") (codes "A:01") 7 (spot_with A None (Some 1))
      (written 4 (codes "0007") 7 (omega arith)
      (omega arith, (omega arith, (omega arith, (omega arith, tt)))) (omega arith) refl)
      (omega arith) (spot A [] (codes ":01") None (Some 1) refl (
        codes "01",
        refl,
        port (codes "01") 1
            (written 2 (codes "01") 1 (omega arith) (omega arith, (omega arith, tt)) (omega arith) refl)
            (omega arith) (omega arith),
      ));
  left_out = word (codes "3") (codes "-") 3 None
      (written 4 (codes "3") 3 (omega arith) (omega arith, tt) (omega arith) refl) (omega arith) refl;
}

-- ---- words that say nothing

-- one byte and no other
lacks-one : (c x : ℕ) → x ≢ c → Lacks c (x ∷ [])
lacks-one c x ne = lacks-more c x [] ne (lacks-none c)

one_equals : (place : List ℕ) → ((spot : Option Spot) → IsPlace place spot → ⊥) → SaysNothing (49 ∷ 61 ∷ place)
one_equals place never k at is =
    let has = word-parts (49 ∷ 61 ∷ place) (49 ∷ []) place refl (lacks-one 61 49 (omega arith)) k at is in
    never at has.place

no-empty : (spot : Option Spot) → IsPlace [] spot → ⊥
no-empty None is = let wrong : [] ≡ 45 ∷ [] = is in cc
no-empty (Some spot) is = by spot.side (spot-whole [] (lacks-none 58) spot is).1
  where
    by : (side : Side) → IsSite [] side spot.switch → ⊥
    by A s = let wrong : [] ≡ 65 ∷ s.name_part = s.written in cc
    by B s = let wrong : [] ≡ 66 ∷ s.name_part = s.written in cc

no-letter : (spot : Option Spot) → IsPlace (67 ∷ []) spot → ⊥
no-letter None is = apart 67 45 ([]) [] (omega arith) is
no-letter (Some spot) is = by spot.side (spot-whole (67 ∷ []) (lacks-one 58 67 (omega arith)) spot is).1
  where
    by : (side : Side) → IsSite (67 ∷ []) side spot.switch → ⊥
    by A s = apart 67 65 [] s.name_part (omega arith) s.written
    by B s = apart 67 66 [] s.name_part (omega arith) s.written

no-high-port : (spot : Option Spot) → IsPlace (65 ∷ 58 ∷ 50 ∷ 53 ∷ []) spot → ⊥
no-high-port None is = apart 65 45 (58 ∷ 50 ∷ 53 ∷ []) [] (omega arith) is
no-high-port (Some spot) is =
    let has = spot-parts (65 ∷ 58 ∷ 50 ∷ 53 ∷ []) (65 ∷ []) (50 ∷ 53 ∷ []) refl
    (lacks-one 58 65 (omega arith)) spot is in
    let value : 25 ≡ has.port = has.digits.number.value in
    let last : has.port ≤ 24 = has.digits.last in
    omega (arith, value, last)

no-port : (spot : Option Spot) → IsPlace (65 ∷ 58 ∷ []) spot → ⊥
no-port None is = apart 65 45 (58 ∷ []) [] (omega arith) is
no-port (Some spot) is =
    let has = spot-parts (65 ∷ 58 ∷ []) (65 ∷ []) [] refl (lacks-one 58 65 (omega arith)) spot is in
    let some : 0 < 0 = has.digits.number.numeral.0 in
    omega (arith, some)

no-name : (spot : Option Spot) → IsPlace (65 ∷ 32 ∷ []) spot → ⊥
no-name None is = apart 65 45 (32 ∷ []) [] (omega arith) is
no-name (Some spot) is =
    let low : Lacks 58 (65 ∷ 32 ∷ []) = lacks-more 58 65 (32 ∷ []) (omega arith) (lacks-one 58 32 (omega arith)) in
    let s = (spot-whole (65 ∷ 32 ∷ []) low spot is).1 in
    let parts = site-parts (65 ∷ 32 ∷ []) (65 ∷ []) [] refl (lacks-one 32 65 (omega arith)) spot.side spot.switch s in
    let some : 1 ≤ 0 = parts.2.first in
    omega (arith, some)

-- digits before `=`
lacks-four : (a b c d : ℕ) → a ≢ 61 → b ≢ 61 → c ≢ 61 → d ≢ 61 → Lacks 61 (a ∷ b ∷ c ∷ d ∷ [])
lacks-four a b c d e f g h =
    lacks-more 61 a (b ∷ c ∷ d ∷ []) e (lacks-more 61 b (c ∷ d ∷ []) f (lacks-more 61 c (d ∷ []) g (lacks-one 61 d h)))

pub other_words : OtherWords
other_words = record {
  high = λ k spot is.
      let low = lacks-four 52 48 57 54 (omega arith) (omega arith) (omega arith) (omega arith) in
      let has = word-parts (codes "4096=A") (codes "4096") (codes "A") refl low k spot is in
      let value : 4096 ≡ k = has.number.value in
      let range : k < 4096 = has.range in
      omega (arith, value, range);
  long = λ k spot is.
      let low = lacks-more 61 48 (codes "0001") (omega arith)
      (lacks-four 48 48 48 49 (omega arith) (omega arith) (omega arith) (omega arith)) in
      let has = word-parts (codes "00001=A") (codes "00001") (codes "A") refl low k spot is in
      let short : 5 ≤ 4 = has.number.short in
      omega (arith, short);
  sign = λ k spot is.
      let low = lacks-more 61 43 (codes "1") (omega arith) (lacks-one 61 49 (omega arith)) in
      let has = word-parts (codes "+1=A") (codes "+1") (codes "A") refl low k spot is in
      let digit : 36 < 10 = has.number.numeral.1.0 in
      omega (arith, digit);
  no_place = one_equals [] no-empty;
  other_side = one_equals (codes "C") no-letter;
  high_port = one_equals (codes "A:25") no-high-port;
  no_port = one_equals (codes "A:") no-port;
  no_name = one_equals (codes "A ") no-name;
}
