-- Texts that grow at their end, in a room that is longer.
use Rattle.std.proofs.Common.{◌≡◌, ℕ, ◌+◌, ◌-◌, ◌≤◌, Bool, true, false, if◌then◌else◌, List, ◌++◌}
use Rattle.std.proofs.Common.{length, take, drop, decimal, ap, ◌∙◌, arith, append_assoc}
use Rattle.std.proofs.lemmas.List.{take-append-drop, take-append-le, take-take, take_at}
use Rattle.std.proofs.Common.{sym}
use Rattle.std.proofs.lemmas.List.{length-take-le}
use Rattle.std.proofs.lemmas.Simd.{put_chunk_is}
use lib.Lanes.{put_chunk}
use Rattle.std.proofs.lemmas.Grind.{common_steps}

-- the first k bytes of a piece, behind a text
pub put_front : (xs piece rest : List ℕ) (at k : ℕ) → at ≤ length xs → k ≤ length piece
    → take (at + k) ((take at xs ++ piece) ++ rest) ≡ take at xs ++ take k piece
put_front xs piece rest at k within few =
    let front = take at xs ++ take k piece in
    let all : (take at xs ++ piece) ++ rest ≡ front ++ (drop k piece ++ rest) =
    grind (arith, append_assoc, take-append-drop k piece) in
    let size : length front ≡ at + k = grind (arith, common_steps) in
    ap (take (at + k)) all ∙ take_at front (drop k piece ++ rest) (at + k) size

-- a room that took k bytes at a place: the first of them, so many, stand behind a text
pub put_at_place : (xs ys : List ℕ) (at size k : ℕ) → size ≤ k → k ≤ length ys → at + k ≤ length xs →
    take (at + size) (put_chunk at xs (take k ys)) ≡ take at xs ++ take size ys
put_at_place xs ys at size k few long within =
    let piece : List ℕ = take k ys in
    let all : length piece ≡ k = length-take-le k ys long in
    let rest : List ℕ = drop (length piece) (drop at xs) in
    ap (take (at + size)) (put_chunk_is at xs piece (omega (arith, all, within))
    ∙ sym (append_assoc (take at xs) piece rest))
    ∙ put_front xs piece rest at size (omega (arith, within)) (omega (arith, all, few))
    ∙ ap (λ (zs : List ℕ). take at xs ++ zs) (take-take size k ys few)

-- a room in which a text ends later
pub put_whole : (old xs room after new : List ℕ) (end at n : ℕ) → end ≤ n → end ≤ length room
    → take end room ≡ take at xs ++ new → take at xs ≡ old →
    take end (take n (room ++ after)) ≡ old ++ new
put_whole old xs room after new end at n long within e text =
    take-take end n (room ++ after) long ∙ take-append-le end room after within ∙ e
    ∙ ap (λ (ys : List ℕ). ys ++ new) text

-- all of a piece
pub take_whole : (xs : List ℕ) → take (length xs) xs ≡ xs
take_whole xs = grind (arith, common_steps)

-- a longer room begins alike
pub grown : (is_ok : Bool) (xs more ys : List ℕ) (end n : ℕ) → end ≤ length xs → end ≤ n
    → ys ≡ (if is_ok then take n xs ++ more else xs) → take end ys ≡ take end xs
grown true xs more ys end n within long e =
    let size : end ≤ length (take n xs) = grind (arith, common_steps) in
    ap (take end) e ∙ take-append-le end (take n xs) more size ∙ take-take end n xs long
grown false xs more ys end n within long e = ap (take end) e

-- a number's digits, which end at place 20
pub first_digits : (ys rest : List ℕ) (n start : ℕ) → start + length (decimal n) ≡ 20
    → drop start ys ≡ decimal n ++ rest → take (20 - start) (drop start ys) ≡ decimal n
first_digits ys rest n start e written =
    let size : length (decimal n) ≡ 20 - start = omega (arith, e) in
    ap (take (20 - start)) written ∙ take_at (decimal n) rest (20 - start) size
