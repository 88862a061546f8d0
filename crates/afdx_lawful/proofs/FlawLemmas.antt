-- What is wrong with a frame by itself, by what the code looks at.
use Rattle.std.proofs.Common.{◌≡◌, ℕ, ◌-◌, ◌≤◌, Bool, true, false, List, ◌++◌, refl, sym, ap, ◌∙◌, arith, length, take}
use Rattle.std.proofs.Common.{drop}
use Rattle.std.specs.Prelude.{if◌then◌else◌, not, nat_lt, Option, Some, None, Ok, Err}
use Rattle.std.specs.Option.{option_or}
use Rattle.std.specs.Int.{w32, to_le_bytes}
use Rattle.std.specs.Str.{bytes_eq}
use Rattle.std.proofs.lemmas.Bool.{cond-true, cond-false}
use Rattle.std.proofs.lemmas.List.{drop-append-le, length-drop, take-append-le}
use Rattle.afdx_frame.specs.Carried.{carried_by}
use Rattle.afdx_frame.specs.Parts.{FrameParts, frame_of, number_of_frame}
use Rattle.afdx_frame.specs.Sealing.{sequence_of}
use Rattle.afdx_frame.specs.Seals.{seal_length, whole}
use Rattle.afdx_frame.specs.declared.fault.MacFault.{MacFault}
use Rattle.afdx_frame.specs.declared.seals.Seal.{Seal}
use Rattle.afdx_frame.specs.declared.seals.Seal.TheVariants.{Right, Wrong, Missing}
use Rattle.afdx_frame.proofs.SealsLemmas.{length-whole}
use Rattle.afdx_lawful.specs.Alone.{number_in}
use Rattle.afdx_lawful.specs.Flaws.{address_in, address_of, flaw_carrying, flaw_in, flaw_of, is_frame, is_whole}
use Rattle.afdx_lawful.specs.Sources.{Came, Source}
use Rattle.afdx_lawful.specs.declared.finding.Flaw.{Flaw}
use Rattle.afdx_lawful.specs.declared.finding.Flaw.TheVariants.{Damaged, OverLmax, UnderLmin, NotItsAddress}

-- ---- the address stands in the message

seal_short : (seal : Seal) → seal_length seal ≤ 4
seal_short Right = omega arith
seal_short Wrong = omega arith
seal_short Missing = omega arith

pub long_message : (seal : Seal) (m : List ℕ) → 64 ≤ length (whole seal m) → 12 ≤ length m
long_message seal m h = omega (arith, h, length-whole seal m, seal_short seal)

appended : (m t : List ℕ) → 12 ≤ length m → address_in (m ++ t) ≡ address_in m
appended m t h =
    ap (take 6) (drop-append-le 6 m t (omega (arith, h)))
    ∙ take-append-le 6 (drop 6 m) t (omega (arith, h, length-drop 6 m))

pub address_whole : (seal : Seal) (m : List ℕ) → 12 ≤ length m → address_in (whole seal m) ≡ address_in m
unfolding whole
address_whole Right m h = appended m (to_le_bytes w32 (sequence_of m)) h
address_whole Wrong m h = appended m (to_le_bytes w32 (0xffff_ffff - sequence_of m)) h
address_whole Missing m h = refl

-- ---- one test after the other

tests : (a b c : Bool) (carried : Option Flaw) → a ≡ false → b ≡ false →
    option_or (if a then Some OverLmax else (if b then Some UnderLmin else
    (if not c then Some NotItsAddress else None))) carried
    ≡ (if c then carried else Some NotItsAddress)
tests true b c carried h e = absurd (cc h)
tests false true c carried h e = absurd (cc e)
tests false false true carried h e = refl
tests false false false carried h e = refl

module _ (s : Source) (x : Came) (p : FrameParts) (over : nat_lt s.rule.lmax (length x.bytes) ≡ false)
    (under : nat_lt (length x.bytes) s.rule.lmin ≡ false) where
  pub not_its : bytes_eq (address_in x.bytes) (address_of s.system x.side) ≡ false →
      Some NotItsAddress ≡ flaw_in s x (Ok p)
  not_its h = sym (tests _ _ (bytes_eq (address_in x.bytes) (address_of s.system x.side))
      (flaw_carrying (carried_by x.bytes)) over under
      ∙ cond-false (bytes_eq (address_in x.bytes) (address_of s.system x.side)) _ _ h)

  pub as_carried : bytes_eq (address_in x.bytes) (address_of s.system x.side) ≡ true →
      flaw_carrying (carried_by x.bytes) ≡ flaw_in s x (Ok p)
  as_carried h = sym (tests _ _ (bytes_eq (address_in x.bytes) (address_of s.system x.side))
      (flaw_carrying (carried_by x.bytes)) over under
      ∙ cond-true (bytes_eq (address_in x.bytes) (address_of s.system x.side)) _ _ h)

-- ---- what is seen

pub damaged_flaw : (s : Source) (x : Came) (fault : MacFault) → frame_of x.bytes ≡ Err fault →
    Some (Damaged fault) ≡ flaw_of s x
unfolding flaw_of
damaged_flaw s x fault h = sym (ap (flaw_in s x) h)

pub whole_flaw : (s : Source) (x : Came) (p : FrameParts) → frame_of x.bytes ≡ Ok p → flaw_in s x (Ok p) ≡ flaw_of s x
unfolding flaw_of
whole_flaw s x p h = sym (ap (flaw_in s x) h)

pub no_number : (x : Came) (fault : MacFault) → frame_of x.bytes ≡ Err fault →
    None ≡ (if is_whole x then Some (number_in x) else None)
unfolding is_whole
no_number x fault h = sym (cond-false (is_frame (frame_of x.bytes)) (Some (number_in x)) None (ap is_frame h))

pub the_number : (x : Came) (p : FrameParts) (n : ℕ) → frame_of x.bytes ≡ Ok p → n ≡ number_of_frame x.bytes →
    Some n ≡ (if is_whole x then Some (number_in x) else None)
unfolding is_whole number_in
the_number x p n h e =
    ap Some e ∙ sym (cond-true (is_frame (frame_of x.bytes)) (Some (number_of_frame x.bytes)) None (ap is_frame h))
