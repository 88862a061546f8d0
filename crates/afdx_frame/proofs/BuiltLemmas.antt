-- What is built is bytes, and is read as what the builder was given.
use Rattle.std.proofs.Common.{◌≡◌, ℕ, zero, suc, ◌+◌, ◌-◌, ◌/◌, ◌%◌, ◌<◌, List, [], ◌∷◌, ◌++◌}
use Rattle.std.proofs.Common.{length, replicate, refl, sym, ap, subst, ◌∙◌, arith}
use Rattle.std.specs.Int.{w16, w32, to_be_bytes, to_le_bytes}
use Rattle.afdx_frame.specs.declared.link.Side.{Side}
use Rattle.afdx_frame.specs.declared.link.Side.TheVariants.{A, B}
use Rattle.afdx_frame.specs.declared.builder.Address.{Address}
use Rattle.afdx_frame.specs.Sealing.{AreBytes, sequence_of}
use Rattle.afdx_frame.specs.Layout.{unsealed}
use Rattle.afdx_frame.specs.Datagrams.{ip_header, udp_header}
use Rattle.afdx_frame.specs.Grammar.{Read, Built, Buildable, network, source_of, built_headers}
use Rattle.afdx_frame.specs.Grammar.{checksum_of, built_length, built_body, built_frame}
use Rattle.afdx_frame.specs.Reading.{BuiltIsComputed}
use Rattle.afdx_frame.proofs.OnlyOneLemmas.{only_one}
use Rattle.afdx_frame.proofs.SealingLemmas.{sequence_computed}
use Rattle.afdx_frame.proofs.FrameLemmas.{ip_bytes, built_is_frame, built_is_read, length-built}
use Rattle.afdx_frame.proofs.ReadingLemmas.{reading_is_computed}
use Rattle.afdx_frame.proofs.PartsLemmas.{frame_is_computed}

-- bytes, so that the list is found by what is known of it
pub record Bytes (l : List ℕ) : Type 0 where
  pub each : AreBytes l

none : Bytes []
none = record { each = λ i. omega arith }

more : (b : ℕ) {bs : List ℕ} → b < 256 → Bytes bs → Bytes (b ∷ bs)
more b {bs} h k = record { each = each } where
  each : AreBytes (b ∷ bs)
  each zero = h
  each (suc i) = k.each i

pub AreBytes-append : (xs ys : List ℕ) → AreBytes xs → AreBytes ys → AreBytes (xs ++ ys)
AreBytes-append [] ys h k i = k i
AreBytes-append (x ∷ xs) ys h k zero = h 0
AreBytes-append (x ∷ xs) ys h k (suc i) = AreBytes-append xs ys (λ j. h (suc j)) k i

joined : {xs ys : List ℕ} → Bytes xs → Bytes ys → Bytes (xs ++ ys)
joined {xs} {ys} h k = record { each = AreBytes-append xs ys h.each k.each }

zeros : (n : ℕ) → Bytes (replicate n 0)
zeros zero = none
zeros (suc n) = more 0 (omega arith) (zeros n)

word : (n : ℕ) → Bytes (to_be_bytes w16 n)
word n = more (n / 256 % 256) (omega arith) (more (n % 256) (omega arith) none)

pub check : (n : ℕ) → Bytes (to_le_bytes w32 n)
check n = more (n % 256) (omega arith)
    (more (n / 256 % 256) (omega arith)
    (more (n / 65536 % 256) (omega arith) (more (n / 16777216 % 256) (omega arith) none)))

zero_word : Bytes (0 ∷ 0 ∷ [])
zero_word = more 0 (omega arith) (more 0 (omega arith) none)

udp_bytes : (a : Address) (len c : ℕ) → Bytes (udp_header (built_headers a len c))
udp_bytes a len c = joined (joined (joined (word a.from_udp) (word a.to_udp)) (word (8 + len))) zero_word

body_bytes : (a : Address) (p : List ℕ) → Buildable a p → AreBytes p → Bytes (built_body a p)
body_bytes a p ok h =
    let sum : ℕ = checksum_of a (length p) in
    let ip : Bytes (ip_header (built_headers a (length p) sum)) =
    record { each = ip_bytes a (length p) sum ok.partition } in
    let payload : Bytes p = record { each = h } in
    joined (joined (joined ip (udp_bytes a (length p) sum)) payload)
    (zeros (built_length a (length p) - (length p + 47)))

network_byte : (side : Side) → network side < 256
network_byte A = omega arith
network_byte B = omega arith

source_bytes : (a : Address) (side : Side) → Bytes (source_of a side)
source_bytes a side =
    joined (joined (more 2 (omega arith) (more 0 (omega arith) (more 0 (omega arith) none)))
    (word a.system_id)) (more (network side) (network_byte side) none)

front_bytes : (vl : ℕ) → Bytes (3 ∷ 0 ∷ 0 ∷ 0 ∷ to_be_bytes w16 vl)
front_bytes vl = more 3 (omega arith) (more 0 (omega arith) (more 0 (omega arith) (more 0 (omega arith) (word vl))))

message : Address → ℕ → Side → List ℕ → List ℕ
message a number side p = unsealed a.vl.0 (source_of a side) 0x0800 (built_body a p) number

message_bytes : (a : Address) (number : ℕ) (side : Side) (p : List ℕ) → Buildable a p → AreBytes p
    → number < 256 → Bytes (message a number side p)
unfolding message
message_bytes a number side p ok h q =
    joined (joined (joined (joined (front_bytes a.vl.0) (source_bytes a side)) (word 0x0800))
    (body_bytes a p ok h)) (more number q none)

frame_bytes : (a : Address) (number : ℕ) (side : Side) (p : List ℕ) → Buildable a p → AreBytes p
    → number < 256 → Bytes (built_frame a number side p)
unfolding message
frame_bytes a number side p ok h q =
    joined (message_bytes a number side p ok h q) (check (sequence_of (message a number side p)))

is_built : (a : Address) (number : ℕ) (side : Side) (p : List ℕ) → Buildable a p → AreBytes p
    → number < 256 → Built a number side p (built_frame a number side p)
unfolding message
is_built a number side p ok h q =
    record {
      check = sequence_of (message a number side p);
      checked = sequence_computed (message a number side p)
          (message_bytes a number side p ok h q).each;
      parts = refl;
    }

one_built : (a : Address) (number : ℕ) (side : Side) (p b : List ℕ) → Buildable a p → AreBytes p
    → number < 256 → Built a number side p b → b ≡ built_frame a number side p
unfolding message
one_built a number side p b ok h q built =
    built.parts
    ∙ ap (λ (n : ℕ). message a number side p ++ to_le_bytes w32 n)
    (only_one (message a number side p) built.check (sequence_of (message a number side p))
    built.checked (sequence_computed (message a number side p)
    (message_bytes a number side p ok h q).each))

pub built_is_computed : BuiltIsComputed
built_is_computed a number side p ok h q =
    let built : Built a number side p (built_frame a number side p) = is_built a number side p ok h q in
    let read : Read (built_frame a number side p) a.vl.0 a.from_udp a.to_udp p number =
    built_is_read a number side p (built_frame a number side p) ok built in
    let bytes : AreBytes (built_frame a number side p) = (frame_bytes a number side p ok h q).each in
    record {
      built = built;
      only_one = λ b other. one_built a number side p b ok h q other;
      bytes = bytes;
      long = length-built a number side p (built_frame a number side p) ok built;
      parts = (frame_is_computed.frame (built_frame a number side p)
          (record { link = a.vl; kind = 0x0800; body = built_body a p; number = number }) bytes).1
          (built_is_frame a number side p (built_frame a number side p) ok built);
      carried = (reading_is_computed.only_one (built_frame a number side p) a.vl.0 a.from_udp
          a.to_udp number p bytes read).4;
    }

-- what is promised of a frame that was built
pub record IsBuilt (a : Address) (number : ℕ) (side : Side) (p frame : List ℕ) : Type 0 where
  pub built : Built a number side p frame
  pub read : Read frame a.vl.0 a.from_udp a.to_udp p number
  pub long : length frame ≡ built_length a (length p)
  pub computed : frame ≡ built_frame a number side p

pub from_computed : (a : Address) (number : ℕ) (side : Side) (p frame : List ℕ) → Buildable a p
    → AreBytes p → number < 256 → frame ≡ built_frame a number side p → IsBuilt a number side p frame
from_computed a number side p frame ok h q e =
    let same : Built a number side p frame =
    subst (λ (b : List ℕ). Built a number side p b) (sym e) (is_built a number side p ok h q) in
    record {
      built = same;
      read = built_is_read a number side p frame ok same;
      long = length-built a number side p frame ok same;
      computed = e;
    }

pub message_is_bytes : (a : Address) (number : ℕ) (side : Side) (p m : List ℕ) → Buildable a p
    → AreBytes p → number < 256 → m ≡ unsealed a.vl.0 (source_of a side) 0x0800 (built_body a p)
    number → AreBytes m
unfolding message
message_is_bytes a number side p m ok h q e = subst AreBytes (sym e) (message_bytes a number side p ok h q).each
