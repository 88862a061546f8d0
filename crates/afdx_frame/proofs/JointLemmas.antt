-- What the window adds to a message, and how each block changes it.
use Rattle.std.proofs.Common.{◌≡◌, ℕ, zero, suc, ◌+◌, ◌-◌, ◌*◌, ◌^◌, ◌<◌, ◌≤◌}
use Rattle.std.proofs.Common.{List, [], ◌∷◌, ◌++◌, length, take, drop, replicate}
use Rattle.std.proofs.Common.{refl, sym, ap, ap₂, ◌∙◌, arith, subst, zero-add}
use Rattle.std.specs.Prelude.{bit_xor}
use Rattle.std.specs.Int.Bits.{xor_lt, xor_block, xor_zero_l, xor_zero_r, xor_comm}
use Rattle.std.specs.Simd.Lanes.{zip2, put_chunk}
use Rattle.std.specs.Int.{w32, to_le_bytes}
use Rattle.std.proofs.lemmas.List.{drop-drop, length-take, length-drop, take-append-drop, take_all}
use Rattle.std.proofs.lemmas.Simd.{length-zip2, length-put_chunk}
use Rattle.std.proofs.Math.Nat.{suc-add}
use Rattle.afdx_frame.specs.Register.{shift, number}
use Rattle.afdx_frame.specs.Folding.{number_from, joint_block, joint, joined, after_rest}
use Rattle.afdx_frame.specs.Sealing.{AreBytes}
use Rattle.afdx_frame.proofs.RegisterLemmas.{shift_front}
use Rattle.afdx_frame.proofs.LeftLemmas.{number-append, number_lt, AreBytes-take, AreBytes-drop, pow_byte}
use Rattle.afdx_frame.proofs.TableLemmas.{bytes_and_more}
use Rattle.afdx_frame.proofs.FoldingLemmas.{behind, taken_away, gathered}

-- ---- a number as its lowest 16 bytes and the rest

pub record Parts (whole rest : ℕ) (block : List ℕ) : Type 0 where
  pub bytes : AreBytes block
  pub long : length block ≡ 16
  pub is : whole ≡ rest * 2 ^ 128 + number block

small : (block : List ℕ) → AreBytes block → length block ≡ 16 → number block < 2 ^ 128
small block h l = subst (λ (n : ℕ). number block < 2 ^ (8 * n)) l (number_lt block h)

parts_from : (bytes : List ℕ) (at : ℕ) → AreBytes bytes → at + 16 ≤ length bytes
    → Parts (number_from bytes at) (number_from bytes (at + 16)) (take 16 (drop at bytes))
unfolding number_from
parts_from bytes at h within = record {
  bytes = AreBytes-take 16 (drop at bytes) (AreBytes-drop at bytes h);
  long = long;
  is = ap number (sym (take-append-drop 16 (drop at bytes)))
      ∙ number-append (take 16 (drop at bytes)) (drop 16 (drop at bytes))
      ∙ ap₂ (λ (n : ℕ) (l : List ℕ). number l * 2 ^ (8 * n) + number (take 16 (drop at bytes)))
      long (drop-drop 16 at bytes);
} where
  long : length (take 16 (drop at bytes)) ≡ 16
  long = omega (arith, length-take 16 (drop at bytes), length-drop at bytes)

number_zip : (xs ys : List ℕ) → AreBytes xs → AreBytes ys → length xs ≡ length ys
    → number (zip2 bit_xor xs ys) ≡ bit_xor (number xs) (number ys)
unfolding number
number_zip [] [] h k l = refl
number_zip [] (y ∷ ys) h k l = absurd (omega arith)
number_zip (x ∷ xs) [] h k l = absurd (omega arith)
number_zip (x ∷ xs) (y ∷ ys) h k l =
    ap (λ (n : ℕ). n * 256 + bit_xor x y)
    (number_zip xs ys (λ i. h (suc i)) (λ i. k (suc i)) (omega arith))
    ∙ sym (xor_block 8 (number xs) (number ys) x y (h 0) (k 0))

AreBytes-zip : (xs ys : List ℕ) → AreBytes xs → AreBytes ys → AreBytes (zip2 bit_xor xs ys)
AreBytes-zip [] ys h k i = omega arith
AreBytes-zip (x ∷ xs) [] h k i = omega arith
AreBytes-zip (x ∷ xs) (y ∷ ys) h k zero = xor_lt 8 x y (h 0) (k 0)
AreBytes-zip (x ∷ xs) (y ∷ ys) h k (suc i) = AreBytes-zip xs ys (λ j. h (suc j)) (λ j. k (suc j)) i

parts_plus : {a a' b b' : ℕ} {v w : List ℕ} → Parts a a' v → Parts b b' w
    → Parts (bit_xor a b) (bit_xor a' b') (zip2 bit_xor v w)
parts_plus {a} {a'} {b} {b'} {v} {w} p q = record {
  bytes = AreBytes-zip v w p.bytes q.bytes;
  long = length-zip2 bit_xor v w (p.long ∙ sym q.long) ∙ p.long;
  is = ap₂ bit_xor p.is q.is
      ∙ xor_block 128 a' b' (number v) (number w) (small v p.bytes p.long) (small w q.bytes q.long)
      ∙ ap (λ (n : ℕ). bit_xor a' b' * 2 ^ 128 + n)
      (sym (number_zip v w p.bytes q.bytes (p.long ∙ sym q.long)));
}

-- further on, also a block further on
parts_on : (bytes : List ℕ) (at d : ℕ) → AreBytes bytes → at + d + 16 ≤ length bytes
    → Parts (number_from bytes (at + d)) (number_from bytes (at + 16 + d)) (take 16 (drop (at + d) bytes))
parts_on bytes at d h within =
    subst (λ (n : ℕ). Parts (number_from bytes (at + d)) (number_from bytes n) (take 16 (drop (at + d) bytes)))
    swapped (parts_from bytes (at + d) h within)
  where
    swapped : at + d + 16 ≡ at + 16 + d
    swapped = omega arith

pub joint-parts : (bytes window : List ℕ) (at : ℕ) → AreBytes bytes → AreBytes window
    → at + 16 ≤ length bytes → at + 171 ≤ length window
    → Parts (joint bytes window at) (joint bytes window (at + 16)) (joint_block bytes window at)
unfolding joint joint_block
joint-parts bytes window at h k within room =
    parts_plus (parts_plus (parts_plus (parts_plus (parts_from bytes at h within)
    (parts_from window at k (omega arith))) (parts_on window at 89 k (omega arith)))
    (parts_on window at 117 k (omega arith))) (parts_on window at 155 k (omega arith))

-- ---- a block that is written where all was zero

number_put : (xs ys : List ℕ) → length ys ≤ length xs → number xs ≡ 0 → number (put_chunk 0 xs ys) ≡ number ys
unfolding number
number_put [] [] l h = refl
number_put [] (y ∷ ys) l h = absurd (omega arith)
number_put (x ∷ xs) [] l h = h
number_put (x ∷ xs) (y ∷ ys) l h = ap (λ (n : ℕ). n * 256 + y) (number_put xs ys (omega arith) (omega arith))

put_behind : (d : ℕ) (xs ys : List ℕ) → AreBytes xs → d + length ys ≤ length xs → number (drop d xs) ≡ 0
    → number (put_chunk d xs ys) ≡ bit_xor (number xs) (number ys * 2 ^ (8 * d))
unfolding number
put_behind zero xs ys b l h =
    number_put xs ys (omega arith) h ∙ omega arith
    ∙ sym (ap (λ (n : ℕ). bit_xor n (number ys * 2 ^ (8 * 0))) h ∙ xor_zero_l (number ys * 2 ^ (8 * 0)))
put_behind (suc d) [] ys b l h = absurd (omega arith)
put_behind (suc d) (x ∷ xs) ys b l h =
    ap (λ (n : ℕ). n * 256 + x) (put_behind d xs ys (λ i. b (suc i)) (omega arith) h)
    ∙ ap (λ (n : ℕ). bit_xor (number xs) (number ys * 2 ^ (8 * d)) * 256 + n) (sym (xor_zero_r x))
    ∙ sym (xor_block 8 (number xs) (number ys * 2 ^ (8 * d)) x 0 (b 0) (omega arith))
    ∙ ap (bit_xor (number xs * 256 + x)) scaled
  where
    scaled : number ys * 2 ^ (8 * d) * 256 + 0 ≡ number ys * 2 ^ (8 * suc d)
    scaled = omega (arith, ap (λ (n : ℕ). number ys * n) (pow_byte d))

put_from : (k d : ℕ) (xs ys : List ℕ) → AreBytes xs → k + d + length ys ≤ length xs
    → number (drop (k + d) xs) ≡ 0
    → number (drop k (put_chunk (k + d) xs ys)) ≡ bit_xor (number (drop k xs)) (number ys * 2 ^ (8 * d))
put_from zero d xs ys b l h =
    rw (zero-add d)
    (put_behind d xs ys b (omega arith) (subst (λ (n : ℕ). number (drop n xs) ≡ 0) (zero-add d) h))
put_from (suc k) d [] ys b l h = absurd (omega arith)
put_from (suc k) d (x ∷ xs) ys b l h =
    rw (suc-add k d)
    (put_from k d xs ys (λ i. b (suc i)) (omega arith)
    (subst (λ (n : ℕ). number (drop n (x ∷ xs)) ≡ 0) (suc-add k d) h))

-- what the window has from a place on, where a block was written behind
from_put : (i k d : ℕ) (xs ys : List ℕ) → i ≡ k + d → AreBytes xs → i + length ys ≤ length xs
    → number_from xs i ≡ 0
    → number_from (put_chunk i xs ys) k ≡ bit_xor (number_from xs k) (number ys * 2 ^ (8 * d))
unfolding number_from
from_put i k d xs ys e b l h =
    ap (λ (n : ℕ). number (drop k (put_chunk n xs ys))) e
    ∙ put_from k d xs ys b (omega arith) (subst (λ (n : ℕ). number (drop n xs) ≡ 0) e h)

number_none : (n : ℕ) (xs : List ℕ) → number xs ≡ 0 → number (drop n xs) ≡ 0
unfolding number
number_none zero xs h = h
number_none (suc n) [] h = h
number_none (suc n) (x ∷ xs) h = number_none n xs (omega arith)

-- where all is zero, all is zero further on
pub none_further : (k j : ℕ) (xs : List ℕ) → number_from xs k ≡ 0 → number_from xs (k + j) ≡ 0
unfolding number_from
none_further k j xs h = ap number (sym (drop-drop j k xs)) ∙ number_none j (drop k xs) h

-- ---- steps of the loops

AreBytes-put : (i : ℕ) (xs ys : List ℕ) → AreBytes xs → AreBytes ys → AreBytes (put_chunk i xs ys)
AreBytes-put i [] ys h k j = omega arith
AreBytes-put zero (x ∷ xs) [] h k j = h j
AreBytes-put zero (x ∷ xs) (y ∷ ys) h k zero = k 0
AreBytes-put zero (x ∷ xs) (y ∷ ys) h k (suc j) = AreBytes-put 0 xs ys (λ n. h (suc n)) (λ n. k (suc n)) j
AreBytes-put (suc i) (x ∷ xs) ys h k zero = h 0
AreBytes-put (suc i) (x ∷ xs) ys h k (suc j) = AreBytes-put i xs ys (λ n. h (suc n)) k j

-- nothing stands behind a block that was written where all was zero
none_put : (i : ℕ) (xs ys : List ℕ) → AreBytes xs → AreBytes ys → length ys ≡ 16
    → i + 16 ≤ length xs → number_from xs i ≡ 0 → number_from (put_chunk i xs ys) (i + 16) ≡ 0
none_put i xs ys b v long l h =
    omega (
      arith,
      (parts_from (put_chunk i xs ys) i (AreBytes-put i xs ys b v) (omega (arith, length-put_chunk i xs ys))).is,
      block,
      small ys v long,
    )
  where
    block : number_from (put_chunk i xs ys) i ≡ number ys
    block = from_put i i 0 xs ys (omega arith) b (omega arith) h
        ∙ ap (λ (n : ℕ). bit_xor n (number ys * 2 ^ (8 * 0))) h ∙ xor_zero_l (number ys * 2 ^ (8 * 0)) ∙ omega arith

joint_put : (bytes window block : List ℕ) (at : ℕ) → AreBytes window → length block ≡ 16
    → at + 316 ≤ length window → number_from window (at + 300) ≡ 0
    → joint bytes (put_chunk (at + 300) window block) (at + 16)
    ≡ bit_xor (joint bytes window (at + 16)) (behind 2272 1560 1336 1032 (number block))
unfolding joint
joint_put bytes window block at b long room h =
    ap₂ bit_xor (ap₂ bit_xor (ap₂ bit_xor (ap (bit_xor (number_from bytes (at + 16))) (put (at + 16) 284 (omega arith)))
    (put (at + 16 + 89) 195 (omega arith))) (put (at + 16 + 117) 167 (omega arith)))
    (put (at + 16 + 155) 129 (omega arith))
    ∙ gathered 2272 1560 1336 1032 (number block) (number_from bytes (at + 16)) (number_from window (at + 16))
    (number_from window (at + 16 + 89)) (number_from window (at + 16 + 117))
    (number_from window (at + 16 + 155))
  where
    put : (k d : ℕ) → at + 300 ≡ k + d → number_from (put_chunk (at + 300) window block) k
        ≡ bit_xor (number_from window k) (number block * 2 ^ (8 * d))
    put k d e = from_put (at + 300) k d window block e b (omega arith) h

pub record Folded (bytes window new : List ℕ) (at next : ℕ) : Type 0 where
  pub still : AreBytes new
  pub fresh : number_from new (next + 300) ≡ 0
  pub same : joined bytes new next 0 ≡ joined bytes window at 0

pub folded : (bytes window new : List ℕ) (at next : ℕ) → AreBytes bytes → AreBytes window
    → at + 320 ≤ length bytes → at + 316 ≤ length window → number_from window (at + 300) ≡ 0
    → new ≡ put_chunk (at + 300) window (joint_block bytes window at) → next ≡ at + 16
    → Folded bytes window new at next
unfolding joined
folded bytes window new at next h b within room fresh e f =
    let p : Parts (joint bytes window at) (joint bytes window (at + 16)) (joint_block bytes window at) =
    joint-parts bytes window at h b (omega arith) (omega arith) in
    record {
      still = subst AreBytes (sym e) (AreBytes-put (at + 300) window (joint_block bytes window at) b p.bytes);
      fresh = ap₂ number_from e (omega arith)
          ∙ none_put (at + 300) window (joint_block bytes window at) b p.bytes p.long (omega arith) fresh;
      same =
          ap (λ (n : ℕ). shift (8 * (length bytes - n)) (bit_xor 0 (joint bytes new n))) f
          ∙ ap (λ (n : ℕ). shift (8 * (length bytes - (at + 16))) n)
          (xor_zero_l (joint bytes new (at + 16))
          ∙ ap (λ (l : List ℕ). joint bytes l (at + 16)) e
          ∙ joint_put bytes window (joint_block bytes window at) at b p.long room fresh)
          ∙ ap (λ (w : ℕ). shift w (bit_xor (joint bytes window (at + 16))
          (behind 2272 1560 1336 1032 (number (joint_block bytes window at))))) later
          ∙ sym (taken_away (8 * (length bytes - at) - 2528) (joint bytes window (at + 16))
          (number (joint_block bytes window at)) (small (joint_block bytes window at) p.bytes p.long))
          ∙ ap₂ shift now (sym p.is ∙ sym (xor_zero_l (joint bytes window at)));
    }
  where
    later : 8 * (length bytes - (at + 16)) ≡ 2400 + (8 * (length bytes - at) - 2528)
    later = omega arith

    now : 2528 + (8 * (length bytes - at) - 2528) ≡ 8 * (length bytes - at)
    now = omega arith

-- two blocks of 8 bytes
two_steps : (v : List ℕ) (register between next : ℕ) → AreBytes v → length v ≡ 16
    → between ≡ shift 64 (bit_xor register (number (take 8 v)))
    → next ≡ shift 64 (bit_xor between (number (take 8 (drop 8 v))))
    → next ≡ shift 128 (bit_xor register (number v))
two_steps v register between next h l e f =
    f ∙ ap (λ (l : List ℕ). shift 64 (bit_xor between (number l))) back
    ∙ ap (λ (n : ℕ). shift 64 (bit_xor n (number (drop 8 v)))) e
    ∙ sym (shift_front 64 64 register (number (drop 8 v)) (number (take 8 v)) below)
    ∙ ap (λ (n : ℕ). shift 128 (bit_xor register n)) (sym whole)
  where
    long : length (take 8 v) ≡ 8
    long = omega (arith, length-take 8 v)

    back : take 8 (drop 8 v) ≡ drop 8 v
    back = take_all 8 (drop 8 v) (omega (arith, length-drop 8 v))

    below : number (take 8 v) < 2 ^ 64
    below = subst (λ (n : ℕ). number (take 8 v) < 2 ^ (8 * n)) long (number_lt (take 8 v) (AreBytes-take 8 v h))

    whole : number v ≡ number (drop 8 v) * 2 ^ 64 + number (take 8 v)
    whole = ap number (sym (take-append-drop 8 v)) ∙ number-append (take 8 v) (drop 8 v)
        ∙ ap (λ (n : ℕ). number (drop 8 v) * 2 ^ (8 * n) + number (take 8 v)) long

pub taken_back : (bytes window : List ℕ) (at register between next : ℕ) → AreBytes bytes → AreBytes window
    → at + 16 ≤ length bytes → at + 171 ≤ length window
    → between ≡ shift 64 (bit_xor register (number (take 8 (joint_block bytes window at))))
    → next ≡ shift 64 (bit_xor between (number (take 8 (drop 8 (joint_block bytes window at)))))
    → joined bytes window (at + 16) next ≡ joined bytes window at register
unfolding joined
taken_back bytes window at register between next h b within room e f =
    let p : Parts (joint bytes window at) (joint bytes window (at + 16)) (joint_block bytes window at) =
    joint-parts bytes window at h b within room in
    ap (λ (n : ℕ). shift (8 * (length bytes - (at + 16))) (bit_xor n (joint bytes window (at + 16))))
    (two_steps (joint_block bytes window at) register between next p.bytes p.long e f)
    ∙ sym (shift_front 128 (8 * (length bytes - (at + 16))) register (joint bytes window (at + 16))
    (number (joint_block bytes window at)) (small (joint_block bytes window at) p.bytes p.long))
    ∙ ap₂ (λ (w n : ℕ). shift w (bit_xor register n)) width (sym p.is)
  where
    width : 128 + 8 * (length bytes - (at + 16)) ≡ 8 * (length bytes - at)
    width = omega arith

-- ---- the first and the last of it

-- at first the window adds the register
pub joint-first : (bytes window : List ℕ) (register : ℕ) → number_from window 0 ≡ register
    → number_from window 4 ≡ 0 → joined bytes window 0 0 ≡ after_rest bytes 0 register
unfolding joined after_rest joint
joint-first bytes window register front back =
    ap (shift (8 * (length bytes - 0)))
    (xor_zero_l _
    ∙ ap₂ bit_xor (ap₂ bit_xor (ap₂ bit_xor (ap (bit_xor (number_from bytes 0)) front)
    (none_further 4 85 window back)) (none_further 4 113 window back)) (none_further 4 151 window back)
    ∙ xor_zero_r _ ∙ xor_zero_r _ ∙ xor_zero_r _ ∙ xor_comm (number_from bytes 0) register)

-- at last it adds nothing
pub joint-last : (bytes window : List ℕ) (at register : ℕ) → number_from window at ≡ 0
    → joined bytes window at register ≡ after_rest bytes at register
unfolding joined after_rest joint
joint-last bytes window at register none =
    ap (λ (n : ℕ). shift (8 * (length bytes - at)) (bit_xor register n))
    (ap₂ bit_xor (ap₂ bit_xor (ap₂ bit_xor (ap (bit_xor (number_from bytes at)) none)
    (none_further at 89 window none)) (none_further at 117 window none)) (none_further at 155 window none)
    ∙ xor_zero_r _ ∙ xor_zero_r _ ∙ xor_zero_r _ ∙ xor_zero_r (number_from bytes at))

pub zeros-none : (n : ℕ) → number_from (replicate n 0) 0 ≡ 0
unfolding number_from number
zeros-none zero = refl
zeros-none (suc n) = ap (λ (m : ℕ). m * 256 + 0) (zeros-none n)

-- a register that is written into a window of zeros
pub register-written : (front window : List ℕ) (register : ℕ) → register < 2 ^ 32 → front ≡ to_le_bytes w32 register
    → number_from window 0 ≡ 0 → number_from (front ++ drop 4 window) 0 ≡ register
unfolding number_from
register-written front window register h e fresh =
    ap (λ (l : List ℕ). number (l ++ drop 4 window)) e ∙ bytes_and_more register (drop 4 window) h
    ∙ ap (λ (n : ℕ). n * 2 ^ 32 + register) (number_none 4 window fresh) ∙ omega arith

pub none-behind : (front window : List ℕ) (register : ℕ) → front ≡ to_le_bytes w32 register
    → number_from window 0 ≡ 0 → number_from (front ++ drop 4 window) 4 ≡ 0
unfolding number_from
none-behind front window register e fresh =
    ap (λ (l : List ℕ). number (drop 4 (l ++ drop 4 window))) e ∙ number_none 4 window fresh

-- a slice up to the end
slice_is : (bytes : List ℕ) (taken : ℕ) → take (length bytes - taken) (drop taken bytes) ≡ drop taken bytes
slice_is bytes taken = take_all (length bytes - taken) (drop taken bytes) (omega (arith, length-drop taken bytes))

-- what is left of what is left
pub rest-further : (bytes : List ℕ) (taken more register : ℕ)
    → after_rest (take (length bytes - taken) (drop taken bytes)) more register
    ≡ after_rest bytes (taken + more) register
unfolding after_rest number_from
rest-further bytes taken more register =
    ap (λ (l : List ℕ). after_rest l more register) (slice_is bytes taken)
    ∙ ap₂ (λ (n : ℕ) (l : List ℕ). shift (8 * n) (bit_xor register (number l)))
    (omega (arith, length-drop taken bytes)) (drop-drop more taken bytes)

pub rest-whole : (bytes : List ℕ) (taken register first : ℕ)
    → after_rest bytes taken register ≡ after_rest bytes 0 first
    → shift (8 * length (take (length bytes - taken) (drop taken bytes)))
    (bit_xor register (number (take (length bytes - taken) (drop taken bytes))))
    ≡ shift (8 * length bytes) (bit_xor first (number bytes))
unfolding after_rest number_from
rest-whole bytes taken register first same =
    ap (λ (l : List ℕ). shift (8 * length l) (bit_xor register (number l))) (slice_is bytes taken)
    ∙ ap (λ (n : ℕ). shift (8 * n) (bit_xor register (number (drop taken bytes)))) (length-drop taken bytes)
    ∙ same ∙ ap (λ (n : ℕ). shift (8 * n) (bit_xor first (number bytes))) (omega arith)
