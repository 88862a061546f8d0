-- The copy of a frame for the other network: it is read alike.
use Rattle.std.proofs.Common.{◌≡◌, ℕ, zero, suc, ◌≤◌, List, [], ◌∷◌, ◌++◌, refl, sym, ap, ◌∙◌, subst, arith}
use Rattle.std.proofs.Common.{drop, length, take}
use Rattle.std.specs.Int.{to_be_bytes, to_le_bytes, w16, w32}
use Rattle.std.proofs.lemmas.List.{append_assoc, length-append, take_at}
use Rattle.afdx_frame.specs.Layout.{IsFrame, unsealed}
use Rattle.afdx_frame.specs.Sealing.{AreBytes, sealed, sequence_of}
use Rattle.afdx_frame.specs.Sequence.{IsSequence}
use Rattle.afdx_frame.specs.declared.link.Side.{Side}
use Rattle.afdx_frame.specs.declared.link.Side.TheVariants.{A, B}
use Rattle.afdx_frame.proofs.BuiltLemmas.{AreBytes-append, check}
use Rattle.afdx_frame.proofs.LeftLemmas.{AreBytes-take}
use Rattle.afdx_frame.proofs.SealingLemmas.{sequence_is_computed}
use Rattle.afdx_config.specs.Rows.{LinkRow, SystemRow}
use Rattle.afdx_config.specs.SentList as sent
use Rattle.afdx_lawful.specs.Flaws.{address_in, address_of, common}
use Rattle.afdx_lawful.specs.TwoNetworks.{IsReadAs}
use Rattle.afdx_lawful.proofs.CopyLemmas.{common_sealed}

-- a frame without its check sequence, as a system sends it on a network
message_on : ℕ → ℕ → Side → List ℕ → ℕ → List ℕ
message_on id vl side body number = unsealed vl (address_of id side) 0x0800 body number

module _ (id vl number : ℕ) (body : List ℕ) where
  long-on : (side other : Side) →
      length (message_on id vl side body number) ≡ length (message_on id vl other body number)
  unfolding message_on
  long-on A A = refl
  long-on A B = refl
  long-on B A = refl
  long-on B B = refl

  common-on : (side other : Side) →
      take 11 (message_on id vl side body number) ++ drop 12 (message_on id vl side body number)
      ≡ take 11 (message_on id vl other body number) ++ drop 12 (message_on id vl other body number)
  unfolding message_on
  common-on A A = refl
  common-on A B = refl
  common-on B A = refl
  common-on B B = refl

  some-on : (side : Side) → 12 ≤ length (message_on id vl side body number)
  unfolding message_on
  some-on A = omega arith
  some-on B = omega arith

  address-on : (side : Side) (more : List ℕ) →
      address_in (message_on id vl side body number ++ more) ≡ address_of id side
  unfolding message_on
  address-on A more = refl
  address-on B more = refl

  -- all bytes but that of the network are the same
  bytes-on : (side other : Side) → AreBytes (message_on id vl side body number) →
      AreBytes (message_on id vl other body number)
  unfolding message_on
  bytes-on side other h zero = h 0
  bytes-on side other h (suc zero) = h 1
  bytes-on side other h (suc (suc zero)) = h 2
  bytes-on side other h (suc (suc (suc zero))) = h 3
  bytes-on side other h (suc (suc (suc (suc zero)))) = h 4
  bytes-on side other h (suc (suc (suc (suc (suc zero))))) = h 5
  bytes-on side other h (suc (suc (suc (suc (suc (suc zero)))))) = h 6
  bytes-on side other h (suc (suc (suc (suc (suc (suc (suc zero))))))) = h 7
  bytes-on side other h (suc (suc (suc (suc (suc (suc (suc (suc zero)))))))) = h 8
  bytes-on side other h (suc (suc (suc (suc (suc (suc (suc (suc (suc zero))))))))) = h 9
  bytes-on side other h (suc (suc (suc (suc (suc (suc (suc (suc (suc (suc zero)))))))))) = h 10
  bytes-on side A h (suc (suc (suc (suc (suc (suc (suc (suc (suc (suc (suc zero))))))))))) = omega arith
  bytes-on side B h (suc (suc (suc (suc (suc (suc (suc (suc (suc (suc (suc zero))))))))))) = omega arith
  bytes-on side other h (suc (suc (suc (suc (suc (suc (suc (suc (suc (suc (suc (suc i)))))))))))) =
      h (suc (suc (suc (suc (suc (suc (suc (suc (suc (suc (suc (suc i))))))))))))

first-of-five : (a b c d e : List ℕ) → (((a ++ b) ++ c) ++ d) ++ e ≡ a ++ (((b ++ c) ++ d) ++ e)
first-of-five a b c d e =
    ap (λ (l : List ℕ). (l ++ d) ++ e) (append_assoc a b c)
    ∙ ap (λ (l : List ℕ). l ++ e) (append_assoc a (b ++ c) d)
    ∙ append_assoc a ((b ++ c) ++ d) e

in-front : (vl kind number : ℕ) (source body more : List ℕ) → length source ≡ 6 →
    address_in (unsealed vl source kind body number ++ more) ≡ source
in-front vl kind number source body more long =
    ap (take 6) (first-of-five source (to_be_bytes w16 kind) body (number ∷ []) more)
    ∙ take_at source (((to_be_bytes w16 kind ++ body) ++ (number ∷ [])) ++ more) 6 long

-- a frame that is read so is its message, and the check sequence of that
record IsOfSystem (message frame : List ℕ) : Type 0 where
  bytes : AreBytes message
  is : frame ≡ sealed message

sealed-by : (message frame : List ℕ) (sequence : ℕ) → AreBytes frame →
    frame ≡ message ++ to_le_bytes w32 sequence → IsSequence message sequence → IsOfSystem message frame
sealed-by message frame sequence h parts checked =
    let bytes : AreBytes message =
    subst AreBytes (ap (take (length message)) parts ∙ take_at message (to_le_bytes w32 sequence) (length message) refl)
    (AreBytes-take (length message) frame h) in
    record {
      bytes = bytes;
      is = parts ∙ ap (λ (n : ℕ). message ++ to_le_bytes w32 n)
          (sequence_is_computed.only_one message sequence (sequence_of message) checked
          (sequence_is_computed.computed message bytes));
    }

-- the copy
pub record IsCopyOf (s : SystemRow) (l : LinkRow) (side : Side) (x : sent.Sent) (frame : List ℕ) : Type 0 where
  pub copy : List ℕ
  pub read : IsReadAs s l side x copy
  pub same : common copy ≡ common frame
  pub long : length copy ≡ length frame

module _ (s : SystemRow) (l : LinkRow) (side other : Side) (x : sent.Sent) (frame : List ℕ)
    (r : IsReadAs s l side x frame) where
  abbrev body : List ℕ
  body = r.reads.body

  abbrev own : List ℕ
  own = message_on s.id l.vl side body x.number

  abbrev for_other : List ℕ
  for_other = message_on s.id l.vl other body x.number

  from-system : r.reads.frame.source ≡ address_of s.id side
  from-system =
      sym (in-front l.vl 0x0800 x.number r.reads.frame.source body (to_le_bytes w32 r.reads.frame.check)
      r.reads.frame.source_length)
      ∙ ap address_in (sym r.reads.frame.parts) ∙ r.address

  of-system : IsOfSystem own frame
  unfolding message_on
  of-system =
      sealed-by own frame r.reads.frame.check r.bytes
      (r.reads.frame.parts
      ∙ ap (λ (a : List ℕ). unsealed l.vl a 0x0800 body x.number ++ to_le_bytes w32 r.reads.frame.check) from-system)
      (subst (λ (a : List ℕ). IsSequence (unsealed l.vl a 0x0800 body x.number) r.reads.frame.check) from-system
      r.reads.frame.checked)

  copy-bytes : AreBytes for_other
  copy-bytes = bytes-on s.id l.vl x.number body side other of-system.bytes

  copy-long : length (sealed for_other) ≡ length frame
  copy-long =
      let here = length-append for_other (to_le_bytes w32 (sequence_of for_other)) in
      let there = ap length of-system.is ∙ length-append own (to_le_bytes w32 (sequence_of own)) in
      let same = long-on s.id l.vl x.number body side other in
      omega (arith, here, there, same)

  copy-frame : IsFrame (sealed for_other) l.vl 0x0800 body x.number
  unfolding message_on
  copy-frame =
      let long = copy-long in
      record {
        source = address_of s.id other;
        check = sequence_of for_other;
        parts = refl;
        checked = sequence_is_computed.computed for_other copy-bytes;
        source_length = refl;
        vl_fits = r.reads.frame.vl_fits;
        kind_fits = r.reads.frame.kind_fits;
        least = (let le = r.reads.frame.least in omega (arith, long, le));
        most = (let le = r.reads.frame.most in omega (arith, long, le));
      }

  pub copy-of : IsCopyOf s l other x frame
  copy-of =
      let long = copy-long in
      record {
        copy = sealed for_other;
        read = record {
          from_port = r.from_port;
          bytes = AreBytes-append for_other (to_le_bytes w32 (sequence_of for_other)) copy-bytes
              (check (sequence_of for_other)).each;
          reads = record { body = body; frame = copy-frame; datagram = r.reads.datagram };
          address = address-on s.id l.vl x.number body other (to_le_bytes w32 (sequence_of for_other));
          fits = (
            (let le = r.fits.0 in omega (arith, long, le)),
            (let le = r.fits.1 in omega (arith, long, le)),
          );
        };
        same = common_sealed for_other (some-on s.id l.vl x.number body other)
            ∙ common-on s.id l.vl x.number body other side
            ∙ sym (common_sealed own (some-on s.id l.vl x.number body side))
            ∙ ap common (sym of-system.is);
        long = long;
      }
