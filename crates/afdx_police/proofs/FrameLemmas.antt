-- A frame's faults and those of an arrival.
use Rattle.std.proofs.Common.{rules, ◌≡◌, ℕ, ◌≤◌, Bool, true, false, List, [], ◌∷◌, ◌++◌, length, refl, ap, ◌∙◌}
use Rattle.std.specs.Prelude.{◌==◌}
use Rattle.std.specs.Prelude.{not, nat_lt, is_none, Option, Some, None, Result, Ok, Err}
use Rattle.std.specs.Prelude.{if◌then◌else◌}
use Rattle.std.specs.Option.{option_map_or, option_or}
use Rattle.std.proofs.lemmas.Bool.{eq-eqb, le-ltb, not_from_true}
use Rattle.afdx_frame.specs.Lengths.{least_frame, greatest_frame}
use Rattle.afdx_frame.specs.Layout.{link_named_by}
use Rattle.afdx_frame.specs.Parts.{FrameParts, frame_of, frame_with}
use Rattle.afdx_frame.specs.Sealing.{is_sealed}
use Rattle.afdx_frame.specs.declared.fault.MacFault.{MacFault}
use Rattle.afdx_frame.specs.declared.fault.MacFault.TheVariants as mac
use Rattle.afdx_frame.specs.declared.link.VlId.{VlId}
use Rattle.afdx_police.proofs.FirstOfLemmas.{first_of-append, false-none}
use Rattle.afdx_police.specs.Arrival.{names}
use Rattle.afdx_police.specs.Shape.{first_of}
use Rattle.afdx_police.specs.Laws.{NoFrameIsRefused}
use Rattle.afdx_police.specs.Rule.{Rule}
use Rattle.afdx_police.specs.Shape.{fault_of, frame_faults, reason_for, rule_faults, IsSound}
use Rattle.afdx_police.proofs.ShapeLemmas.{faultless-is-sound, of-least}
use Rattle.afdx_police.specs.declared.shape.Reason.{Reason}
use Rattle.afdx_police.specs.declared.shape.Reason.TheVariants.{TooShort, TooLong, BadFcs}
use Rattle.afdx_police.specs.declared.shape.Reason.TheVariants.{BadAddress, UnknownLink}

-- what is answered where a frame is read
answered : List ℕ → Bool → Bool → Bool → Option VlId → Result FrameParts MacFault
answered bytes short long sealed named =
    if short then Err mac.TooShort
    else (if long then Err mac.TooLong
    else (if not sealed then Err mac.BadFcs
    else frame_with bytes named))

fault_in : Result FrameParts MacFault → Option Reason
fault_in (Ok parts) = None
fault_in (Err fault) = Some (reason_for fault)

first : (bytes : List ℕ) (short long sealed : Bool) (named : Option VlId) →
    first_of ((short, TooShort) ∷ (long, TooLong) ∷ (not sealed, BadFcs)
    ∷ (is_none named, BadAddress) ∷ [])
    ≡ fault_in (answered bytes short long sealed named)
unfolding answered fault_in
first bytes true long sealed named = refl
first bytes false true sealed named = refl
first bytes false false false named = refl
first bytes false false true None = refl
first bytes false false true (Some vl) = refl

-- the first fault of bytes that are no frame is that of reading it
frame-first : (bytes : List ℕ) → first_of (frame_faults bytes) ≡ fault_in (frame_of bytes)
unfolding frame_of answered
frame-first bytes =
    first bytes (nat_lt (length bytes) least_frame) (nat_lt greatest_frame (length bytes))
    (is_sealed bytes) (link_named_by bytes)

-- so it comes before all others
before : (bytes : List ℕ) (later : List (Bool × Reason)) →
    first_of (frame_faults bytes ++ later) ≡ option_or (fault_in (frame_of bytes)) (first_of later)
before bytes later =
    first_of-append (frame_faults bytes) later
    ∙ ap (λ o. option_or o (first_of later)) (frame-first bytes)

after-frame : (bytes : List ℕ) (parts : FrameParts) (later : List (Bool × Reason))
    → frame_of bytes ≡ Ok parts → first_of (frame_faults bytes ++ later) ≡ first_of later
unfolding fault_in
after-frame bytes parts later h =
    before bytes later ∙ ap (λ r. option_or (fault_in r) (first_of later)) h

after-fault : (bytes : List ℕ) (fault : MacFault) (later : List (Bool × Reason))
    → frame_of bytes ≡ Err fault → first_of (frame_faults bytes ++ later) ≡ Some (reason_for fault)
unfolding fault_in
after-fault bytes fault later h =
    before bytes later ∙ ap (λ r. option_or (fault_in r) (first_of later)) h

link_in : Result FrameParts MacFault → Option VlId
link_in (Ok parts) = Some parts.link
link_in (Err fault) = None

known : (bytes : List ℕ) (parts : FrameParts) (short long sealed : Bool) (link : Option VlId)
    → answered bytes short long sealed link ≡ Ok parts → (sealed ≡ true) × (link ≡ Some parts.link)
unfolding answered link_in
known bytes parts true long sealed link h = absurd (cc)
known bytes parts false true sealed link h = absurd (cc)
known bytes parts false false false link h = absurd (cc)
known bytes parts false false true None h = absurd (cc)
known bytes parts false false true (Some v) h = (refl, ap link_in h)

frame-known : (bytes : List ℕ) (parts : FrameParts) → frame_of bytes ≡ Ok parts
    → (is_sealed bytes ≡ true) × (link_named_by bytes ≡ Some parts.link)
unfolding frame_of answered
frame-known bytes parts h =
    known bytes parts (nat_lt (length bytes) least_frame) (nat_lt greatest_frame (length bytes))
    (is_sealed bytes) (link_named_by bytes) h

-- a frame is sealed
pub frame_is_sealed : (bytes : List ℕ) (parts : FrameParts) → frame_of bytes ≡ Ok parts → is_sealed bytes ≡ true
frame_is_sealed bytes parts h = (frame-known bytes parts h).0

-- of the arrival of a frame, the rule's tests decide
pub judged : (rule : Rule) (port : ℕ) (bytes : List ℕ) (parts : FrameParts) → frame_of bytes ≡ Ok parts
    → fault_of (Some rule) port bytes
    ≡ first_of (rule_faults rule port (parts.link.0 == rule.vl) bytes)
unfolding fault_of names
judged rule port bytes parts h =
    after-frame bytes parts (rule_faults rule port (names rule.vl bytes) bytes) h
    ∙ ap (λ o. first_of (rule_faults rule port (option_map_or (λ n. n.0 == rule.vl) o false) bytes))
    (frame-known bytes parts h).1

-- where there is no rule, a frame's link is unknown
pub judged_without : (port : ℕ) (bytes : List ℕ) (parts : FrameParts) → frame_of bytes ≡ Ok parts
    → fault_of None port bytes ≡ Some UnknownLink
unfolding fault_of
judged_without port bytes parts h = after-frame bytes parts ((true, UnknownLink) ∷ []) h

pub no_frame : NoFrameIsRefused
unfolding fault_of
no_frame None port bytes fault h = after-fault bytes fault ((true, UnknownLink) ∷ []) h
no_frame (Some rule) port bytes fault h =
    after-fault bytes fault (rule_faults rule port (names rule.vl bytes) bytes) h

-- the bytes are a frame of this link
pub record IsFrameOn (vl : ℕ) (bytes : List ℕ) : Type 0 where
  pub parts : FrameParts
  pub is_frame : frame_of bytes ≡ Ok parts
  pub named : parts.link.0 ≡ vl

-- at the port of the link's rule, and of a length that it may have, nothing is wrong in it
pub frame_sound : (rule : Rule) (port : ℕ) (bytes : List ℕ) → IsFrameOn rule.vl bytes
    → rule.port ≡ port → rule.lmin ≤ length bytes → length bytes ≤ rule.lmax → IsSound rule port bytes
frame_sound rule port bytes is here least most =
    (faultless-is-sound rule port bytes).0
    (judged rule port bytes is.parts is.is_frame
    ∙ false-none (rule_faults rule port (is.parts.link.0 == rule.vl) bytes)
    (search (rules, is, here, least, most, not_from_true, eq-eqb, le-ltb, of-least)))
