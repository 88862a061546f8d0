-- What computes of a check sequence agrees with the remainder.
use Rattle.std.proofs.Common.{◌≡◌, ℕ, zero, suc, ◌+◌, ◌-◌, ◌*◌, ◌/◌, ◌%◌, ◌^◌, ◌<◌, ◌≤◌, inl, inr}
use Rattle.std.proofs.Common.{Bool, true, false, cond, List, ◌++◌, length, take, drop}
use Rattle.std.proofs.Common.{refl, sym, ap, ap₂, subst, ◌∙◌, arith}
use Rattle.std.specs.Prelude.{bit_xor, ◌==◌, ◌&&◌, nat_le}
use Rattle.std.specs.Bool.{Decides}
use Rattle.std.specs.Str.{bytes_eq}
use Rattle.std.specs.Int.{w32, to_le_bytes, from_le_bytes}
use Rattle.std.proofs.Common.{pow-add}
use Rattle.std.proofs.Math.Nat.{pow-suc}
use Rattle.std.proofs.Math.Pow.{pow_pos}
use Rattle.std.proofs.lemmas.Nat.{xor_lt, from_le_bytes-to_le_bytes_4}
use Rattle.std.proofs.lemmas.Bool.{cases_lt, le-leb, leb-true, false_from_ne_true}
use Rattle.std.proofs.lemmas.Slice.Eq.{bytes_eq-Decides}
use Rattle.std.proofs.lemmas.List.{take_at, drop_at, length-append}
use Rattle.afdx_frame.specs.Sequence.{IsSequence, IsSealed}
use Rattle.afdx_frame.specs.Register.{shifted, shift, number}
use Rattle.afdx_frame.specs.Sealing.{sequence_of, sealed, sealed_wrongly, is_sealed, AreBytes}
use Rattle.afdx_frame.specs.Sealing.{SequenceIsComputed, SealingIsComputed}
use Rattle.afdx_frame.proofs.RegisterLemmas.{sequence_is}
use Rattle.afdx_frame.proofs.LeftLemmas.{number_lt, AreBytes-take}
use Rattle.afdx_frame.proofs.OnlyOneLemmas.{only_one}
use Rattle.afdx_frame.proofs.SealedLemmas as last

-- ---- the register keeps to its 32 bits

pub wide : (k : ℕ) → 2 ^ 32 ≤ 2 ^ (32 + k)
wide k = omega (arith, pow-add 2 32 k, pow_pos k)

shifted_lt : (w n : ℕ) → 2 ^ 32 ≤ 2 ^ w → n < 2 ^ w * 2 → shifted n < 2 ^ w
shifted_lt w n l h =
    elim (n % 2 == 1) as (λ b. cond b (bit_xor (n / 2) 0xedb8_8320) (n / 2) < 2 ^ w) [
      | true ↦ xor_lt w (n / 2) 0xedb8_8320 (omega arith) (omega arith)
      | false ↦ omega arith
    ]

pub shift_lt : (k j n : ℕ) → j ≡ 32 + k → n < 2 ^ j → shift k n < 2 ^ 32
unfolding shift
shift_lt zero j n e h = subst (λ (m : ℕ). n < 2 ^ m) e h
shift_lt (suc k) j n e h =
    shift_lt k (32 + k) (shifted n) refl (shifted_lt (32 + k) n (wide k) (omega (arith, h, twice)))
  where
    j_is : j ≡ suc (32 + k)
    j_is = omega (arith, e)

    twice : 2 ^ j ≡ 2 ^ (32 + k) * 2
    twice = ap (λ (m : ℕ). 2 ^ m) j_is ∙ pow-suc 2 (32 + k)

-- what a message leaves in the register
pub register_lt : (message : List ℕ) → AreBytes message
    → shift (8 * length message) (bit_xor 0xffff_ffff (number message)) < 2 ^ 32
register_lt message h =
    let long : number message < 2 ^ (32 + 8 * length message) =
    omega (arith, number_lt message h, pow-add 2 32 (8 * length message), pow_pos (8 * length message)) in
    let ones : 0xffff_ffff < 2 ^ (32 + 8 * length message) = omega (arith, wide (8 * length message)) in
    shift_lt (8 * length message) (32 + 8 * length message) (bit_xor 0xffff_ffff (number message)) refl
    (xor_lt (32 + 8 * length message) 0xffff_ffff (number message) ones long)

pub sequence_computed : (message : List ℕ) → AreBytes message → IsSequence message (sequence_of message)
unfolding sequence_of
sequence_computed message h =
    sequence_is message (shift (8 * length message) (bit_xor 0xffff_ffff (number message)))
    (0xffff_ffff - shift (8 * length message) (bit_xor 0xffff_ffff (number message))) h refl
    (register_lt message h) refl

pub computed_from : (message : List ℕ) (register : ℕ)
    → register ≡ shift (8 * length message) (bit_xor 0xffff_ffff (number message))
    → 0xffff_ffff - register ≡ sequence_of message
unfolding sequence_of
computed_from message register e = ap (λ (r : ℕ). 0xffff_ffff - r) e

pub sequence_lt : (message : List ℕ) → sequence_of message < 2 ^ 32
unfolding sequence_of
sequence_lt message = omega arith

-- ---- what is sealed

pub is_sealed-long : (bytes : List ℕ) → 4 ≤ length bytes
    → is_sealed bytes ≡ bytes_eq (drop (length bytes - 4) bytes)
    (to_le_bytes w32 (sequence_of (take (length bytes - 4) bytes)))
unfolding is_sealed
is_sealed-long bytes h =
    ap (λ (b : Bool). b && bytes_eq (drop (length bytes - 4) bytes)
    (to_le_bytes w32 (sequence_of (take (length bytes - 4) bytes)))) (le-leb 4 (length bytes) h)

pub is_sealed-short : (bytes : List ℕ) → length bytes < 4 → is_sealed bytes ≡ false
unfolding is_sealed
is_sealed-short bytes h =
    ap (λ (b : Bool). b && bytes_eq (drop (length bytes - 4) bytes)
    (to_le_bytes w32 (sequence_of (take (length bytes - 4) bytes))))
    (false_from_ne_true (nat_le 4 (length bytes)) (λ e. absurd (omega (arith, leb-true 4 (length bytes) e))))

pub is_sealed-decides : (bytes : List ℕ) → AreBytes bytes → Decides (is_sealed bytes) (IsSealed bytes)
is_sealed-decides bytes h = elim (cases_lt (length bytes) 4) [
  | inl short ↦ (
    λ e. absurd (cc (is_sealed-short bytes short, e)),
    λ s. absurd (omega (arith, last.sealed_long bytes s, short)),
  )
  | inr long ↦ (
    λ e. last.sealed bytes (length bytes - 4) (sequence_of (take (length bytes - 4) bytes))
        (sequence_computed (take (length bytes - 4) bytes) (AreBytes-take (length bytes - 4) bytes h))
        ((bytes_eq-Decides (drop (length bytes - 4) bytes)
        (to_le_bytes w32 (sequence_of (take (length bytes - 4) bytes)))).0
        (sym (is_sealed-long bytes long) ∙ e)),
    λ s. is_sealed-long bytes long
        ∙ (bytes_eq-Decides (drop (length bytes - 4) bytes)
        (to_le_bytes w32 (sequence_of (take (length bytes - 4) bytes)))).1
        (last.sealed_last bytes (length bytes - 4) (sequence_of (take (length bytes - 4) bytes))
        (omega (arith, long)) (sequence_computed (take (length bytes - 4) bytes)
        (AreBytes-take (length bytes - 4) bytes h)) s),
  )
]

-- bytes with any number after them
ends : (bytes : List ℕ) (n : ℕ) → is_sealed (bytes ++ to_le_bytes w32 n)
    ≡ bytes_eq (to_le_bytes w32 n) (to_le_bytes w32 (sequence_of bytes))
ends bytes n =
    is_sealed-long (bytes ++ to_le_bytes w32 n) (omega (arith, long))
    ∙ ap₂ (λ (x y : List ℕ). bytes_eq x (to_le_bytes w32 (sequence_of y)))
    (drop_at bytes (to_le_bytes w32 n) (length (bytes ++ to_le_bytes w32 n) - 4) (omega (arith, long)))
    (take_at bytes (to_le_bytes w32 n) (length (bytes ++ to_le_bytes w32 n) - 4) (omega (arith, long)))
  where
    long : length (bytes ++ to_le_bytes w32 n) ≡ length bytes + 4
    long = length-append bytes (to_le_bytes w32 n)

pub sealed-is : (bytes : List ℕ) → is_sealed (sealed bytes) ≡ true
sealed-is bytes = ends bytes (sequence_of bytes)
    ∙ (bytes_eq-Decides (to_le_bytes w32 (sequence_of bytes))
    (to_le_bytes w32 (sequence_of bytes))).1 refl

pub sealed_wrongly-is : (bytes : List ℕ) → is_sealed (sealed_wrongly bytes) ≡ false
sealed_wrongly-is bytes = false_from_ne_true (is_sealed (sealed_wrongly bytes)) (λ e.
    let same : to_le_bytes w32 (0xffff_ffff - sequence_of bytes) ≡ to_le_bytes w32 (sequence_of bytes) =
    (bytes_eq-Decides (to_le_bytes w32 (0xffff_ffff - sequence_of bytes))
    (to_le_bytes w32 (sequence_of bytes))).0 (sym (ends bytes (0xffff_ffff - sequence_of bytes))
    ∙ e) in
    let equal : 0xffff_ffff - sequence_of bytes ≡ sequence_of bytes =
    sym (from_le_bytes-to_le_bytes_4 (0xffff_ffff - sequence_of bytes) (omega arith)) ∙ ap (from_le_bytes w32) same
    ∙ from_le_bytes-to_le_bytes_4 (sequence_of bytes) (sequence_lt bytes) in
    absurd (omega (arith, equal)))

pub sequence_is_computed : SequenceIsComputed
sequence_is_computed = record { computed = sequence_computed; only_one = only_one }

pub sealing_is_computed : SealingIsComputed
sealing_is_computed = record {
  tested = λ bytes h. is_sealed-decides bytes h;
  sealed = λ bytes. sealed-is bytes;
  wrongly = λ bytes. sealed_wrongly-is bytes;
}
