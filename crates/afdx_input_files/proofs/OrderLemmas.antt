-- Numbers in the bytes of a recording.
use Rattle.std.proofs.Common.{◌≡◌, ℕ, ◌+◌, ◌-◌, ◌<◌, ◌≤◌, ◌^◌, List, ◌++◌, length, take, drop, ap, sym, ◌∙◌, arith, get_or}
use Rattle.std.proofs.lemmas.List.{drop-append-le, take-append-drop, length-take-le}
use Rattle.std.proofs.lemmas.Grind.{common_steps}
use Rattle.byteorder.specs.Numbers.{big_from-append, little_from-append, big_from-lt, little_from-lt}
use Rattle.afdx_input_files.specs.declared.order.Order.{Order}
use Rattle.afdx_input_files.specs.declared.order.Order.TheVariants.{LowFirst, HighFirst}
use Rattle.afdx_input_files.specs.Orders.{number_in}

pub rest_from : (place : ℕ) (bytes : List ℕ) → take (length bytes - place) (drop place bytes) ≡ drop place bytes
rest_from place bytes = grind (arith, common_steps)

-- a number reads only its own bytes
pub number_in-append : (order : Order) (n : ℕ) (xs ys : List ℕ) → n ≤ length xs
    → number_in order n (xs ++ ys) ≡ number_in order n xs
unfolding number_in
number_in-append LowFirst n xs ys h = little_from-append n xs ys h
number_in-append HighFirst n xs ys h = big_from-append n xs ys h

-- of bytes it is below 256^n
pub number_in-lt : (order : Order) (n : ℕ) (xs : List ℕ) → ((k : ℕ) → get_or xs k 0 < 256)
    → number_in order n xs < 256 ^ n
unfolding number_in
number_in-lt LowFirst n xs h = little_from-lt 0 n xs h
number_in-lt HighFirst n xs h = big_from-lt 0 n xs h

-- so does one that stands behind others
pub number_at-append : (order : Order) (n place : ℕ) (xs ys : List ℕ) → place + n ≤ length xs
    → number_in order n (drop place (xs ++ ys)) ≡ number_in order n (drop place xs)
number_at-append order n place xs ys h =
    let size : n ≤ length (drop place xs) = grind (arith, common_steps) in
    ap (number_in order n) (drop-append-le place xs ys (omega arith))
    ∙ number_in-append order n (drop place xs) ys size

-- a number stands among the first bytes
pub number_at-take : (order : Order) (n place m : ℕ) (xs : List ℕ) → place + n ≤ m → m ≤ length xs
    → number_in order n (drop place (take m xs)) ≡ number_in order n (drop place xs)
number_at-take order n place m xs h within =
    let size = length-take-le m xs within in
    sym (number_at-append order n place (take m xs) (drop m xs) (omega (arith, size)))
    ∙ ap (λ (bytes : List ℕ). number_in order n (drop place bytes)) (take-append-drop m xs)
