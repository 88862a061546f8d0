-- The bytes of a frame by its message and its seal, and what stands in those of one that is sealed right.
use Rattle.std.proofs.Common.{◌≡◌, ℕ, ◌+◌, ◌-◌, ◌*◌, ◌<◌, ◌≤◌, inl, inr, true, false, List, ◌++◌}
use Rattle.std.proofs.Common.{length, take, drop, get_or, refl, sym, ap, ap₂, ◌∙◌, arith}
use Rattle.std.specs.Int.{w32, to_le_bytes}
use Rattle.std.proofs.lemmas.List.{length-append, take-append-le, drop-append-le, take-append-drop, get_or_append_left}
use Rattle.std.proofs.lemmas.Bool.{cases_lt}
use Rattle.std.proofs.lemmas.Slice.Eq.{bytes_eq-Decides}
use Rattle.std.proofs.lemmas.List.{length-drop}
use Rattle.afdx_frame.specs.declared.seals.Seal.{Seal}
use Rattle.afdx_frame.specs.declared.seals.Seal.TheVariants.{Right, Wrong, Missing}
use Rattle.afdx_frame.specs.Layout.{IsTo, IsFrame, NoLink}
use Rattle.afdx_frame.specs.Sealing.{AreBytes, is_sealed, sealed, sequence_of}
use Rattle.afdx_frame.specs.Seals.{whole, seal_length, IsSealedAs}
use Rattle.afdx_frame.proofs.BuiltLemmas.{AreBytes-append, check}
use Rattle.afdx_frame.proofs.LayoutLemmas.{is_frame}
use Rattle.afdx_frame.proofs.SealingLemmas.{is_sealed-decides, is_sealed-long, is_sealed-short, sealed-is, sealed_wrongly-is}

pub whole-right : (message : List ℕ) → whole Right message ≡ sealed message
unfolding whole
whole-right message = refl

pub whole-missing : (message : List ℕ) → whole Missing message ≡ message
unfolding whole
whole-missing message = refl

pub length-sealed : (message : List ℕ) → length (sealed message) ≡ length message + 4
length-sealed message = omega (arith, length-append message (to_le_bytes w32 (sequence_of message)))

pub length-whole : (seal : Seal) (message : List ℕ) → length (whole seal message) ≡ length message + seal_length seal
unfolding whole
length-whole Right message = length-sealed message
length-whole Wrong message =
    omega (arith, length-append message (to_le_bytes w32 (0xffff_ffff - sequence_of message)))
length-whole Missing message = omega arith

-- ---- what is known of a seal

pub known-right : (message : List ℕ) → IsSealedAs Right message
unfolding whole
known-right message = sealed-is message

pub known-wrong : (message : List ℕ) → IsSealedAs Wrong message
unfolding whole
known-wrong message = sealed_wrongly-is message

pub known-missing : (message : List ℕ) → is_sealed message ≡ false → IsSealedAs Missing message
unfolding whole
known-missing message e = e

-- sealed bytes are at least their check sequence
pub long : (bytes : List ℕ) → is_sealed bytes ≡ true → 4 ≤ length bytes
long bytes e = elim (cases_lt (length bytes) 4) [
  | inl short ↦ let no = is_sealed-short bytes short in absurd (cc)
  | inr least ↦ least
]

-- and all before it, sealed
pub is_whole : (bytes : List ℕ) → is_sealed bytes ≡ true → whole Right (take (length bytes - 4) bytes) ≡ bytes
unfolding whole
is_whole bytes e =
    ap (λ (l : List ℕ). take (length bytes - 4) bytes ++ l) (sym last) ∙ take-append-drop (length bytes - 4) bytes
  where
    last : drop (length bytes - 4) bytes ≡ to_le_bytes w32 (sequence_of (take (length bytes - 4) bytes))
    last = (bytes_eq-Decides (drop (length bytes - 4) bytes)
        (to_le_bytes w32 (sequence_of (take (length bytes - 4) bytes)))).0
        (sym (is_sealed-long bytes (long bytes e)) ∙ e)

-- ---- a frame by its message

pub AreBytes-sealed : (message : List ℕ) → AreBytes message → AreBytes (sealed message)
AreBytes-sealed message h =
    AreBytes-append message (to_le_bytes w32 (sequence_of message)) h (check (sequence_of message)).each

pub AreBytes-whole : (seal : Seal) (message : List ℕ) → AreBytes message → AreBytes (whole seal message)
unfolding whole
AreBytes-whole Right message h = AreBytes-sealed message h
AreBytes-whole Wrong message h =
    AreBytes-append message (to_le_bytes w32 (0xffff_ffff - sequence_of message)) h
    (check (0xffff_ffff - sequence_of message)).each
AreBytes-whole Missing message h = h

to-longer : (message more : List ℕ) (vl : ℕ) → IsTo message vl → IsTo (message ++ more) vl
to-longer message more vl to = record {
  rest = to.rest ++ more;
  parts = ap (λ (l : List ℕ). l ++ more) to.parts;
  fits = to.fits;
}

pub to-shorter : (message more : List ℕ) (vl : ℕ) → 6 ≤ length message → IsTo (message ++ more) vl → IsTo message vl
to-shorter message more vl h to = record {
  rest = drop 6 message;
  parts = sym (take-append-drop 6 message)
      ∙ ap (λ (l : List ℕ). l ++ drop 6 message) (sym (take-append-le 6 message more h) ∙ ap (take 6) to.parts);
  fits = to.fits;
}

pub no_link : (message : List ℕ) → 6 ≤ length message → NoLink message → NoLink (sealed message)
no_link message h none vl to =
    none vl (to-shorter message (to_le_bytes w32 (sequence_of message)) vl h to)

at : (message : List ℕ) (i : ℕ) → i < length message → get_or (sealed message) i 0 ≡ get_or message i 0
at message i h = get_or_append_left message (to_le_bytes w32 (sequence_of message)) 0 i h

pub is_sealed_frame : (message : List ℕ) (vl kind number : ℕ) (body : List ℕ) → AreBytes message
    → 60 ≤ length message → length message ≤ 1514 → IsTo message vl
    → kind < 65536 → kind ≡ get_or message 12 0 * 256 + get_or message 13 0
    → body ≡ take (length message - 1 - 14) (drop 14 message) → number ≡ get_or message (length message - 1) 0
    → IsFrame (sealed message) vl kind body number
is_sealed_frame message vl kind number body h least most to f k b q =
    is_frame (sealed message) vl kind number body (AreBytes-sealed message h)
    (omega (arith, length-sealed message)) (omega (arith, length-sealed message))
    ((is_sealed-decides (sealed message) (AreBytes-sealed message h)).0 (sealed-is message))
    (to-longer message (to_le_bytes w32 (sequence_of message)) vl to) f
    (k ∙ sym (ap₂ (λ (x y : ℕ). x * 256 + y) (at message 12 (omega arith)) (at message 13 (omega arith))))
    (b ∙ sym behind)
    (q ∙ sym (ap (λ (i : ℕ). get_or (sealed message) i 0) last ∙ at message (length message - 1) (omega arith)))
  where
    last : length (sealed message) - 5 ≡ length message - 1
    last = omega (arith, length-sealed message)

    behind : take (length (sealed message) - 5 - 14) (drop 14 (sealed message))
        ≡ take (length message - 1 - 14) (drop 14 message)
    behind =
        ap₂ (λ (i : ℕ) (l : List ℕ). take (i - 14) l) last
        (drop-append-le 14 message (to_le_bytes w32 (sequence_of message)) (omega arith))
        ∙ take-append-le (length message - 1 - 14) (drop 14 message) (to_le_bytes w32 (sequence_of message))
        (omega (arith, length-drop 14 message))
