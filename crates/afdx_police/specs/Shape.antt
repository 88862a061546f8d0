-- What is wrong with one arrival, from its bytes, its port and its link's rule alone.
use Rattle.std.specs.Prelude.{◌≡◌, ◌≤◌, ℕ, IsTrue, Bool, false, true, not, ◌&&◌, ◌==◌, nat_lt}
use Rattle.std.specs.Prelude.{is_none, Option, Some, None, List, [], ◌∷◌, ◌++◌, length}
use Rattle.std.specs.Prelude.{if◌then◌else◌}
use Rattle.afdx_frame.specs.Lengths.{least_frame, greatest_frame}
use Rattle.afdx_frame.specs.declared.fault.MacFault.{MacFault}
use Rattle.afdx_frame.specs.declared.fault.MacFault.TheVariants as mac
use Rattle.afdx_frame.specs.declared.link.Policing.{Policing}
use Rattle.afdx_frame.specs.declared.link.Policing.TheVariants.{Byte, Frame}
use Rattle.afdx_frame.specs.Layout.{link_named_by}
use Rattle.afdx_frame.specs.Sealing.{is_sealed}
use Rattle.afdx_police.specs.Arrival.{names}
use Rattle.afdx_police.specs.Rule.{Rule}
use Rattle.afdx_police.specs.declared.shape.Reason.{Reason}
use Rattle.afdx_police.specs.declared.shape.Reason.TheVariants.{TooShort, TooLong, BadFcs}
use Rattle.afdx_police.specs.declared.shape.Reason.TheVariants.{BadAddress, UnknownLink, WrongPort}
use Rattle.afdx_police.specs.declared.shape.Reason.TheVariants.{OverLmax, UnderLmin}

-- the first of some tests that is true, by what is answered there
abbrev pub first_of : {R : Type 0} → List (Bool × R) → Option R
first_of [] = None
first_of (rule ∷ rules) = if rule.0 then Some rule.1 else first_of rules

-- the reason to drop bytes that are no frame
abbrev pub reason_for : MacFault → Reason
reason_for mac.TooShort = TooShort
reason_for mac.TooLong = TooLong
reason_for mac.BadFcs = BadFcs
reason_for mac.BadAddress = BadAddress

abbrev pub is_byte_based : Policing → Bool
is_byte_based Byte = true
is_byte_based Frame = false

-- too short for its link, which is policed by bytes
abbrev pub is_under_lmin : Rule → List ℕ → Bool
is_under_lmin rule bytes = is_byte_based rule.policing && nat_lt (length bytes) rule.lmin

-- each fault beside the test of it, in the order in which they are answered: those of bytes that
-- are no frame of a link
abbrev pub frame_faults : List ℕ → List (Bool × Reason)
frame_faults bytes =
    (nat_lt (length bytes) least_frame, TooShort) ∷
    (nat_lt greatest_frame (length bytes), TooLong) ∷
    (not (is_sealed bytes), BadFcs) ∷
    (is_none (link_named_by bytes), BadAddress) ∷ []

-- those of a frame by a rule, whose link it names or not
abbrev pub rule_faults : Rule → ℕ → Bool → List ℕ → List (Bool × Reason)
rule_faults rule port is_named bytes =
    (not is_named, UnknownLink) ∷
    (not (rule.port == port), WrongPort) ∷
    (nat_lt rule.lmax (length bytes), OverLmax) ∷
    (is_under_lmin rule bytes, UnderLmin) ∷ []

-- those of an arrival; no rule: no link of the tables is named
abbrev pub faults : Option Rule → ℕ → List ℕ → List (Bool × Reason)
faults None port bytes = frame_faults bytes ++ (true, UnknownLink) ∷ []
faults (Some rule) port bytes =
    frame_faults bytes ++ rule_faults rule port (names rule.vl bytes) bytes

-- the first fault of the arrival, if it has one
unfoldable pub fault_of : Option Rule → ℕ → List ℕ → Option Reason
fault_of rule port bytes = first_of (faults rule port bytes)

-- an arrival of the rule's link in which nothing is wrong
pub record IsSound (rule : Rule) (port : ℕ) (bytes : List ℕ) : Type 0 where
  pub shortest : least_frame ≤ length bytes
  pub longest : length bytes ≤ greatest_frame
  pub sealed : IsTrue (is_sealed bytes)
  pub named : IsTrue (names rule.vl bytes)
  pub at_port : rule.port ≡ port
  pub within : length bytes ≤ rule.lmax
  pub least : rule.policing ≡ Byte → rule.lmin ≤ length bytes
