-- The check sequences of messages that differ in one byte.
use Rattle.std.proofs.Common.{◌≡◌, ℕ, zero, suc, ◌+◌, ◌-◌, ◌*◌, ◌^◌, ◌<◌, ◌≤◌, List, [], ◌∷◌, ◌++◌}
use Rattle.std.proofs.Common.{length, get_or, refl, sym, ap, ap₂, subst, ◌∙◌, arith}
use Rattle.std.specs.Prelude.{bit_xor, slice_set}
use Rattle.std.specs.Int.{w16, w32, to_be_bytes, to_le_bytes}
use Rattle.std.specs.Int.Bits.{xor_comm, xor_assoc, xor_zero_l, xor_add_and, xor_block, xor_lt, and_mask}
use Rattle.std.proofs.Math.Nat.{mod-eq_of_lt}
use Rattle.std.proofs.lemmas.List.{length-append}
use Rattle.afdx_frame.specs.declared.differences.TheConstants.{DIFFERENCES}
use Rattle.afdx_frame.specs.Register.{shift, number}
use Rattle.afdx_frame.specs.declared.link.Side.{Side}
use Rattle.afdx_frame.specs.declared.link.Side.TheVariants.{A, B}
use Rattle.afdx_frame.specs.declared.builder.Address.{Address}
use Rattle.afdx_frame.specs.Sealing.{AreBytes, sequence_of, sealed}
use Rattle.afdx_frame.specs.Layout.{unsealed}
use Rattle.afdx_frame.specs.Grammar.{network, source_of, built_body}
use Rattle.afdx_frame.proofs.RegisterLemmas.{shift_xor, shift-pow, shift-add}
use Rattle.afdx_frame.proofs.LeftLemmas.{number-append, number_lt}
use Rattle.afdx_frame.proofs.SealingLemmas.{register_lt, shift_lt, wide}

-- ---- the table

after_bytes : ℕ → ℕ → List ℕ
after_bytes zero register = []
after_bytes (suc n) register = register ∷ after_bytes n (shift 8 register)

get_or-after_bytes : (n i w byte : ℕ) → i < n → get_or (after_bytes n (shift w byte)) i 0 ≡ shift (w + 8 * i) byte
unfolding after_bytes
get_or-after_bytes zero i w byte h = absurd (omega arith)
get_or-after_bytes (suc n) zero w byte h = ap (λ (k : ℕ). shift k byte) (omega arith)
get_or-after_bytes (suc n) (suc i) w byte h =
    ap (λ (r : ℕ). get_or (after_bytes n r) i 0) (sym (shift-add w 8 byte))
    ∙ get_or-after_bytes n i (w + 8) byte (omega arith)
    ∙ ap (λ (k : ℕ). shift k byte) (omega arith)

differences_are : DIFFERENCES ≡ after_bytes 1455 (shift 392 0x60)
unfolding after_bytes shift
differences_are = refl

pub difference_at : (i : ℕ) → i < 1455 → get_or DIFFERENCES i 0 ≡ shift (392 + 8 * i) 0x60
difference_at i h = ap (λ (ds : List ℕ). get_or ds i 0) differences_are ∙ get_or-after_bytes 1455 i 392 0x60 h

-- ---- the register

-- a number of 32 bits, complemented
complemented : (r : ℕ) → r < 2 ^ 32 → 0xffff_ffff - r ≡ bit_xor r 0xffff_ffff
complemented r h = omega (arith, xor_add_and r 0xffff_ffff, and_mask r 32, mod-eq_of_lt h)

flipped : (r d : ℕ) → r < 2 ^ 32 → d < 2 ^ 32 → 0xffff_ffff - bit_xor r d ≡ bit_xor (0xffff_ffff - r) d
flipped r d h l =
    complemented (bit_xor r d) (xor_lt 32 r d h l)
    ∙ xor_assoc r d 0xffff_ffff ∙ ap (bit_xor r) (xor_comm d 0xffff_ffff) ∙ sym (xor_assoc r 0xffff_ffff d)
    ∙ ap (λ (n : ℕ). bit_xor n d) (sym (complemented r h))

-- the byte of the other network, as a sum
other_byte : (back : List ℕ) → bit_xor 0x60 (number (0x20 ∷ back)) ≡ number (0x40 ∷ back)
unfolding number
other_byte back = xor_block 8 0 (number back) 0x60 0x20 (omega arith) (omega arith)
    ∙ omega (arith, xor_zero_l (number back))

other_number : (front back : List ℕ) → AreBytes front
    → number (front ++ 0x40 ∷ back) ≡ bit_xor (number (front ++ 0x20 ∷ back)) (0x60 * 2 ^ (8 * length front))
other_number front back h =
    number-append front (0x40 ∷ back)
    ∙ ap₂ (λ (m n : ℕ). m * 2 ^ (8 * length front) + n) (sym (other_byte back)) (sym (xor_zero_l (number front)))
    ∙ sym (xor_block (8 * length front) 0x60 (number (0x20 ∷ back)) 0 (number front)
    (omega (arith, number_lt front h)) (number_lt front h))
    ∙ ap₂ bit_xor plain (sym (number-append front (0x20 ∷ back)))
    ∙ xor_comm (0x60 * 2 ^ (8 * length front)) (number (front ++ 0x20 ∷ back))
  where
    plain : 0x60 * 2 ^ (8 * length front) + 0 ≡ 0x60 * 2 ^ (8 * length front)
    plain = omega arith

shifted_out : (j k : ℕ) → shift (j + k) (0x60 * 2 ^ j) ≡ shift k 0x60
shifted_out j k = shift-add j k (0x60 * 2 ^ j) ∙ ap (shift k) (shift-pow j 0x60)

other_register : (front back : List ℕ) (k : ℕ) → AreBytes front → k ≡ 8 * length back + 8
    → shift (8 * length (front ++ 0x40 ∷ back)) (bit_xor 0xffff_ffff (number (front ++ 0x40 ∷ back)))
    ≡ bit_xor (shift (8 * length (front ++ 0x20 ∷ back))
    (bit_xor 0xffff_ffff (number (front ++ 0x20 ∷ back)))) (shift k 0x60)
other_register front back k h e =
    ap₂ (λ (w n : ℕ). shift w (bit_xor 0xffff_ffff n)) same (other_number front back h)
    ∙ ap (shift (8 * length (front ++ 0x20 ∷ back)))
    (sym (xor_assoc 0xffff_ffff (number (front ++ 0x20 ∷ back)) (0x60 * 2 ^ (8 * length front))))
    ∙ shift_xor (8 * length (front ++ 0x20 ∷ back))
    (bit_xor 0xffff_ffff (number (front ++ 0x20 ∷ back))) (0x60 * 2 ^ (8 * length front))
    ∙ ap (bit_xor (shift (8 * length (front ++ 0x20 ∷ back)) (bit_xor 0xffff_ffff (number (front ++ 0x20 ∷ back)))))
    (ap (λ (w : ℕ). shift w (0x60 * 2 ^ (8 * length front))) width ∙ shifted_out (8 * length front) k)
  where
    same : 8 * length (front ++ 0x40 ∷ back) ≡ 8 * length (front ++ 0x20 ∷ back)
    same = omega (arith, length-append front (0x40 ∷ back), length-append front (0x20 ∷ back))

    width : 8 * length (front ++ 0x20 ∷ back) ≡ 8 * length front + k
    width = omega (arith, e, length-append front (0x20 ∷ back))

shift_of_byte_lt : (k : ℕ) → shift k 0x60 < 2 ^ 32
shift_of_byte_lt k = shift_lt k (32 + k) 0x60 refl (omega (arith, wide k))

-- The sequence with the byte of network B, from that with the byte of network A.
pub other_sequence : (front back : List ℕ) (k : ℕ) → AreBytes front
    → AreBytes (front ++ 0x20 ∷ back) → k ≡ 8 * length back + 8
    → sequence_of (front ++ 0x40 ∷ back) ≡ bit_xor (sequence_of (front ++ 0x20 ∷ back)) (shift k 0x60)
unfolding sequence_of
other_sequence front back k h all e =
    ap (λ (r : ℕ). 0xffff_ffff - r) (other_register front back k h e)
    ∙ flipped (shift (8 * length (front ++ 0x20 ∷ back))
    (bit_xor 0xffff_ffff (number (front ++ 0x20 ∷ back)))) (shift k 0x60)
    (register_lt (front ++ 0x20 ∷ back) all) (shift_of_byte_lt k)

-- ---- the two frames

front_of : Address → List ℕ
front_of a = 3 ∷ 0 ∷ 0 ∷ 0 ∷ to_be_bytes w16 a.vl.0 ++ 2 ∷ 0 ∷ 0 ∷ to_be_bytes w16 a.system_id

back_of : Address → ℕ → List ℕ → List ℕ
back_of a number p = to_be_bytes w16 0x0800 ++ built_body a p ++ number ∷ []

abbrev pub message_of : Address → ℕ → Side → List ℕ → List ℕ
message_of a number side p = unsealed a.vl.0 (source_of a side) 0x0800 (built_body a p) number

in_parts : (a : Address) (number : ℕ) (side : Side) (p : List ℕ) → message_of a number side p
    ≡ front_of a ++ network side ∷ back_of a number p
unfolding front_of back_of
in_parts a number side p = refl

changed : (a : Address) (number : ℕ) (p : List ℕ) → slice_set (message_of a number A p) 11 0x40
    ≡ message_of a number B p
changed a number p = refl

long_front : (a : Address) → length (front_of a) ≡ 11
unfolding front_of
long_front a = refl

AreBytes-before : (xs ys : List ℕ) → AreBytes (xs ++ ys) → AreBytes xs
AreBytes-before [] ys h i = omega arith
AreBytes-before (x ∷ xs) ys h zero = h 0
AreBytes-before (x ∷ xs) ys h (suc i) = AreBytes-before xs ys (λ k. h (suc k)) i

other_check : (a : Address) (number : ℕ) (p : List ℕ) (check change k : ℕ)
    → AreBytes (message_of a number A p) → check ≡ sequence_of (message_of a number A p)
    → change ≡ shift k 0x60 → k ≡ 392 + 8 * (length (message_of a number A p) - 60)
    → 60 ≤ length (message_of a number A p)
    → bit_xor check change ≡ sequence_of (message_of a number B p)
other_check a number p check change k h e d width least =
    ap₂ bit_xor (e ∙ ap sequence_of (in_parts a number A p)) d
    ∙ sym (other_sequence (front_of a) (back_of a number p) k
    (AreBytes-before (front_of a) (0x20 ∷ back_of a number p) bytes) bytes long)
    ∙ ap sequence_of (sym (in_parts a number B p))
  where
    bytes : AreBytes (front_of a ++ 0x20 ∷ back_of a number p)
    bytes = subst AreBytes (in_parts a number A p) h

    long : k ≡ 8 * length (back_of a number p) + 8
    long = omega (
      arith,
      width,
      least,
      ap length (in_parts a number A p),
      long_front a,
      length-append (front_of a) (0x20 ∷ back_of a number p),
    )

-- what the steps give for network B
pub other_frame : (a : Address) (number : ℕ) (p first copy frame : List ℕ) (check change k : ℕ)
    → AreBytes first → first ≡ message_of a number A p → copy ≡ first
    → check ≡ sequence_of first → change ≡ shift k 0x60 → k ≡ 392 + 8 * (length first - 60) → 60 ≤ length first
    → frame ≡ slice_set copy 11 0x40 ++ to_le_bytes w32 (bit_xor check change)
    → frame ≡ sealed (message_of a number B p)
other_frame a number p first copy frame check change k h is same e d width least f =
    f ∙ ap₂ (λ (m : List ℕ) (n : ℕ). m ++ to_le_bytes w32 n)
    (ap (λ (m : List ℕ). slice_set m 11 0x40) (same ∙ is) ∙ changed a number p)
    (other_check a number p check change k (subst AreBytes is h) (e ∙ ap sequence_of is) d
    (width ∙ ap (λ (m : List ℕ). 392 + 8 * (length m - 60)) is) (omega (arith, least, ap length is)))
