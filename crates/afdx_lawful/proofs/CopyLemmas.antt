-- Frames that are the same on both networks, by their messages.
use Rattle.std.proofs.Common.{◌≡◌, ℕ, ◌+◌, ◌-◌, ◌≤◌, Bool, true, false, List, ◌++◌, refl, sym, ap, ap₂, ◌∙◌, arith}
use Rattle.std.proofs.Common.{length, take, drop}
use Rattle.std.specs.Prelude.{Result, Ok, Err}
use Rattle.std.specs.Bool.{Decides}
use Rattle.std.specs.Int.{w32, to_le_bytes}
use Rattle.std.specs.Str.{bytes_eq}
use Rattle.std.proofs.lemmas.Bool.{ltb-false}
use Rattle.std.proofs.lemmas.Bool.Decides.{same_from_decides}
use Rattle.std.proofs.lemmas.List.{drop_at, length-append, length-take-le, take-append-le, take_at}
use Rattle.std.proofs.lemmas.Slice.Eq.{bytes_eq-Decides}
use Rattle.afdx_frame.specs.Parts.{FrameParts, frame_of}
use Rattle.afdx_frame.specs.Sealing.{is_sealed, sealed, sequence_of}
use Rattle.afdx_frame.specs.Seals.{IsSealedAs, whole}
use Rattle.afdx_frame.specs.declared.fault.MacFault.{MacFault}
use Rattle.afdx_frame.specs.declared.seals.Seal.{Seal}
use Rattle.afdx_frame.specs.declared.seals.Seal.TheVariants.{Right, Wrong, Missing}
use Rattle.afdx_lawful.specs.Flaws.{IsWholeFrame, common, is_copy, is_frame}
use Rattle.afdx_lawful.specs.Sources.{Came}
use Rattle.afdx_lawful.proofs.AcceptedLemmas.{IsRightLong, right_long}

-- ---- both parts are the same

module _ (m o : List ℕ) (long : 12 ≤ length m) (long' : 12 ≤ length o) where
  front_length : length (take 11 m) ≡ length (take 11 o)
  front_length = length-take-le 11 m (omega (arith, long)) ∙ sym (length-take-le 11 o (omega (arith, long')))

  parted : take 11 m ++ drop 12 m ≡ take 11 o ++ drop 12 o → (take 11 m ≡ take 11 o) × (drop 12 m ≡ drop 12 o)
  parted h = (
    sym (take_at (take 11 m) (drop 12 m) (length (take 11 m)) refl)
        ∙ ap (take (length (take 11 m))) h
        ∙ take_at (take 11 o) (drop 12 o) (length (take 11 m)) (sym front_length),
    sym (drop_at (take 11 m) (drop 12 m) (length (take 11 m)) refl)
        ∙ ap (drop (length (take 11 m))) h
        ∙ drop_at (take 11 o) (drop 12 o) (length (take 11 m)) (sym front_length),
  )

  alike : (r : Bool) → Decides r ((take 11 m ≡ take 11 o) × (drop 12 m ≡ drop 12 o)) →
      r ≡ bytes_eq (take 11 m ++ drop 12 m) (take 11 o ++ drop 12 o)
  alike r d =
      same_from_decides r (bytes_eq (take 11 m ++ drop 12 m) (take 11 o ++ drop 12 o)) (
        λ yes. let both = d.0 yes in ap₂ (λ (a b : List ℕ). a ++ b) both.0 both.1,
        λ e. d.1 (parted e),
      ) (bytes_eq-Decides (take 11 m ++ drop 12 m) (take 11 o ++ drop 12 o))

  pub alike_not : bytes_eq (take 11 m) (take 11 o) ≡ false →
      false ≡ bytes_eq (take 11 m ++ drop 12 m) (take 11 o ++ drop 12 o)
  alike_not front =
      alike false (
        λ yes. absurd (cc yes),
        λ both. sym front ∙ (bytes_eq-Decides (take 11 m) (take 11 o)).1 both.0,
      )

-- ---- a whole frame is its message and its check sequence

framed : (bytes : List ℕ) (r : Result FrameParts MacFault) → frame_of bytes ≡ r → is_frame r ≡ true → IsRightLong bytes
framed bytes (Ok p) h e = right_long bytes p h
framed bytes (Err fault) h e = absurd (cc e)

right_seal : (seal : Seal) (m : List ℕ) → IsSealedAs seal m → is_sealed (whole seal m) ≡ true → whole seal m ≡ sealed m
unfolding whole
right_seal Right m known h = refl
right_seal Wrong m known h = absurd (cc (known, h))
right_seal Missing m known h = absurd (cc (known, h))

record IsMessage (bytes m : List ℕ) : Type 0 where
  same : bytes ≡ sealed m
  long : 12 ≤ length m

message_of : (seal : Seal) (m : List ℕ) → IsSealedAs seal m → IsWholeFrame (whole seal m) → IsMessage (whole seal m) m
message_of seal m known h =
    let right = framed (whole seal m) (frame_of (whole seal m)) refl h in
    let same : whole seal m ≡ sealed m = right_seal seal m known right.sealed in
    let least : 64 ≤ length (whole seal m) = ltb-false _ _ right.shortest in
    let size : length (whole seal m) ≡ length m + 4 =
    ap length same ∙ length-append m (to_le_bytes w32 (sequence_of m)) in
    record { same = same; long = omega (arith, least, size) }

pub long_whole : (seal : Seal) (m : List ℕ) → IsSealedAs seal m → IsWholeFrame (whole seal m) → 12 ≤ length m
long_whole seal m known h = (message_of seal m known h).long

pub common_sealed : (m : List ℕ) → 12 ≤ length m → common (sealed m) ≡ take 11 m ++ drop 12 m
common_sealed m long =
    let seq : List ℕ = to_le_bytes w32 (sequence_of m) in
    let size : length (m ++ seq) - 4 ≡ length m = omega (arith, length-append m seq) in
    ap₂ (λ (a b : List ℕ). a ++ drop 12 b) (take-append-le 11 m seq (omega (arith, long)))
    (take_at m seq (length (m ++ seq) - 4) (sym size))

common_of : (seal : Seal) (m bytes : List ℕ) → IsSealedAs seal m → IsWholeFrame (whole seal m) → bytes ≡ whole seal m →
    common bytes ≡ take 11 m ++ drop 12 m
common_of seal m bytes known h is =
    let of = message_of seal m known h in
    ap common (is ∙ of.same) ∙ common_sealed m of.long

pub copy_by : (seal seal' : Seal) (m o : List ℕ) (x y : Came) → IsSealedAs seal m → IsSealedAs seal' o →
    IsWholeFrame (whole seal m) → IsWholeFrame (whole seal' o) → x.bytes ≡ whole seal m → y.bytes ≡ whole seal' o →
    bytes_eq (take 11 m ++ drop 12 m) (take 11 o ++ drop 12 o) ≡ is_copy x y
unfolding is_copy
copy_by seal seal' m o x y known known' h h' is is' =
    sym (ap₂ bytes_eq (common_of seal m x.bytes known h is) (common_of seal' o y.bytes known' h' is'))

-- ---- a whole frame is no longer than a frame may be

long_at_most : (bytes : List ℕ) (r : Result FrameParts MacFault) → frame_of bytes ≡ r → is_frame r ≡ true →
    length bytes ≤ 1518
long_at_most bytes (Ok p) h e = ltb-false _ _ (right_long bytes p h).longest
long_at_most bytes (Err fault) h e = absurd (cc e)

pub at_most : (bytes : List ℕ) → IsWholeFrame bytes → length bytes ≤ 1518
at_most bytes h = long_at_most bytes (frame_of bytes) refl h
